-- What a reader of this crate must believe; `Inner` is for code and proofs alone.
pub mod Lent
pub mod Inner
