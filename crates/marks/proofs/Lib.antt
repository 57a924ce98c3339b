-- Laws of marks: stage 8; the awaited events; the remaining program.
pub mod Sorts
pub mod Seeing
pub mod Arrays
pub mod AllFit
pub mod Ranges
pub mod EventSets
pub mod Hearing
pub mod Onward
pub mod Spans
pub mod Leavings
pub mod Stores
pub mod Copies
pub mod Writing
pub mod WholeProgram
