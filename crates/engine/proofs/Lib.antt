-- The way down to the part that runs, what stands above it, and one turn of the round.
pub mod Parts
pub mod Climbing
pub mod Rounds
pub mod Resting
