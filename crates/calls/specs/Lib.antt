-- What the calls answer and leave.
pub mod Answers
pub mod Holding
pub mod Stages
