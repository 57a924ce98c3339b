-- What the arithmetic rests on: bits, and what wraps.
pub mod Bits
pub mod Wrap
-- The arrays stand for a memory of the rules.
pub mod Written
pub mod Standing
