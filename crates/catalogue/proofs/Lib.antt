-- What the checks' walks share.
pub mod Walks
pub mod Columns
