-- What a reader of this crate must believe, lowest first; `Inner` is for code and proofs alone.
pub mod Lists
pub mod Checks
pub mod Rule
pub mod Catalogue
pub mod Fault
pub mod Format
pub mod FaultMet
pub mod Build
pub mod Gic
pub mod Alternative
pub mod ListedBuilds
pub mod Inner
