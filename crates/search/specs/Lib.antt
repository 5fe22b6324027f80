-- What a reader of this crate must believe, lowest first; `Inner` is for code and proofs alone. `Trolley` has the
-- catalogues that the paper works by hand.
pub mod Bits
pub mod Look
pub mod Clinic
pub mod Candidates
pub mod Step
pub mod Count
pub mod StepRules
pub mod RecordFits
pub mod Misfit
pub mod Trolley
pub mod Inner
