-- The written search, from its top theorems down.
--   StepRules, OneOutcome: a step does what the paper's rules say, wherever number 20 lets the record through, and
--     they allow nothing else
--   ReadyJob: what a clinic sees when its job has ended
--   FirstBuild: one pair's search finds the first build in dictionary order that has the option, or there is none
--   CompletionsAreBuilds: what it searches are the builds with the option, the feature's own choice set aside
--   JobSteps: a job is at its end after just K steps, and at work before
--   JobResult: what masks and share hold then
--   Misfit: a record fits the catalogue just where no clause of number 20 is met
pub mod Bits
pub mod Words
pub mod NoBits
pub mod FitsInWords
pub mod EveryBelow
pub mod Misfit
pub mod Filled
pub mod KeptBefore
pub mod SetAside
pub mod WithBuild
pub mod PlaceBounds
pub mod ExamplePlaces
pub mod SearchAlone
pub mod TakesSteps
pub mod CandidatesInOrder
pub mod CandidatesAt
pub mod CandidatesBelow
pub mod GivenUp
pub mod GoingBack
pub mod TrialFits
pub mod ClinicFits
pub mod RecordLengths
pub mod StepFits
pub mod StepByCase
pub mod CandidateWords
pub mod PassedInWords
pub mod WentBack
pub mod PairEnded
pub mod StepRules
pub mod NearestDepth
pub mod OneOutcome
pub mod StepWrites
pub mod SearchSteps
pub mod TrialLength
pub mod PairSteps
pub mod PairsInOrder
pub mod PairsOfAJob
pub mod StepsAdded
pub mod JobSteps
pub mod PairView
pub mod WorkedPairs
pub mod JobResult
pub mod SearchPremises
pub mod Allowed
pub mod FirstCompletion
pub mod CompletionsByFeature
pub mod CompletionsAreBuilds
pub mod FirstBuild
pub mod ReadyOnce
pub mod ReadyJob
