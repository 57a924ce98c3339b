-- What the C functions answer and leave.
pub mod Answers
pub mod Numbers
pub mod Counted
