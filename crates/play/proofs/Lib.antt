-- What the player's loop and calls cite, what its contract is, and that scripts leave no run out.
pub mod Script
pub mod Contracts
pub mod EveryRun
