-- For the code alone.
pub mod inner
