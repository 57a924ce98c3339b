-- Laws that the proofs of several functions use.
pub mod Ends
pub mod Visiting
pub mod Firsts
pub mod Rows
pub mod Confined
pub mod Counting
pub mod Tallies
pub mod Passing
pub mod Refusals
pub mod Announcing
