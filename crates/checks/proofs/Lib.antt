-- The table's rows, walked from the front, and how a longer call's number is made of a shorter one's.
pub mod Adds
pub mod Listed
