-- The commands by their numbers.
pub mod Command
