-- The letter's three demands and the paper's sentences on a run, one file each, in the order of docs/READING.md.
pub mod Moment
pub mod Openings
pub mod Refusals
pub mod Whole
pub mod Askings
pub mod Turns
pub mod OptionsLeft
pub mod Jobs
pub mod RanInto
pub mod Replacing
pub mod TwoRuns
pub mod Possible
pub mod InARun
pub mod Throughout
pub mod Words
