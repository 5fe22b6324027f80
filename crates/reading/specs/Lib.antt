-- For the code alone.
pub mod Inner
