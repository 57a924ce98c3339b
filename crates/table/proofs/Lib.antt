-- Laws of tables, for this crate's functions and for every crate that walks a table.
pub mod Counting
pub mod Places
pub mod Trees
pub mod Laid
pub mod Passed
pub mod Finding
pub mod Spots
pub mod Entries
