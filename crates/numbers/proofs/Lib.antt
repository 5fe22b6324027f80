-- What the numbers of the refusals tell.
pub mod Numbers
