-- What a run lends to the calls.
pub mod Lends
