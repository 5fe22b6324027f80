-- What a reader of this crate must believe, lowest first.
pub mod Records
pub mod Tidy
pub mod Door
