-- The calls through the door and the conversions that they make, from the top theorems down.
--   Handed: a refused call leaves all as it came; an unknown state is number 20; calls one after another are the desk's own
--   Contracts: the contracts, written out apart from the code
--   Settled: of each call any two outcomes that its contract allows are equal
--   ThereAndBack: the two conversions undo each other
pub mod ThroughDoor
pub mod StandingExample
pub mod ThereAndBack
pub mod Handed
pub mod Settled
pub mod Contracts
