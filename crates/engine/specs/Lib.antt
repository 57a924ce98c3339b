-- What the contracts of resume, blocked and the round are said with.
pub mod Running
pub mod Parts
pub mod Forks
