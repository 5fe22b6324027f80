-- The marks of the seats at work, and what one turn of the loop does.
pub mod MarkBits
pub mod FirstAtWork
pub mod Turning
