-- What the runner tests before the first line.
pub mod Verdict
