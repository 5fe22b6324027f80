-- What code and proofs say in passing; no promise cites it.
pub mod Column
