pub mod Trial
pub mod Masks
