-- Laws that stand beside the definitions, and what the proofs of several functions use.
pub mod Laws
pub mod Buffers
pub mod Products
