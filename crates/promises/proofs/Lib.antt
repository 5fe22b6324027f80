-- The statements of specs/, proved, each in the file of its name; and what they rest on.
--   SoundMoments: every moment of a run is sound
--   RefusedOpening: after a refused opening no seat ever opens
--   StepsMade, Pace: how turns move a job on, and how soon
--   LastPosted: at every moment a seat is blank or at the job that it posted last
--   AtEveryMoment, KeptChoices, Reached: what lasts through a run, and so where every clinic stands
pub mod Refusals
pub mod SoundMoments
pub mod RefusedOpening
pub mod Whole
pub mod Askings
pub mod StepsMade
pub mod Pace
pub mod Jobs
pub mod LastPosted
pub mod TwoRuns
pub mod AtEveryMoment
pub mod KeptChoices
pub mod Reached
pub mod OptionsLeft
pub mod Openings
pub mod Possible
pub mod InARun
pub mod RanInto
pub mod Throughout
pub mod Replacing
pub mod Turns
pub mod Words
