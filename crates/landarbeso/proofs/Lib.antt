-- Laws of the C functions.
pub mod Verdicts
pub mod Counting
