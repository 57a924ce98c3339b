-- What the functions of the check give.
pub mod Counts
pub mod Firsts
pub mod Records
pub mod Rows
pub mod Visits
pub mod Verdicts
