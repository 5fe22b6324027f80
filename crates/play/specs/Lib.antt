-- What the numbers of a script mean.
pub mod Script
