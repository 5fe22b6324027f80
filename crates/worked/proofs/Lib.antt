pub mod Computing
pub mod Worked
pub mod TrolleyFits
