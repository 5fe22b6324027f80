-- What the calls that read a seat cite, and what their contracts are.
pub mod ReadSeat
pub mod Contracts
