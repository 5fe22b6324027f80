-- What the calls cite, and what their contracts are.
pub mod Placed
pub mod Contracts
