-- What the runner prints, and of which values of the code.
pub mod Lines
pub mod Printed
pub mod CaseSix
pub mod Texts
-- What a function promises that writes one of these lines into a lent buffer.
pub mod Writes
