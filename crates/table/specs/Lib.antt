-- Places of a table and the trees that stand there.
pub mod Kinds
pub mod Named
pub mod Places
pub mod Found
pub mod Refusing
pub mod Constructs
-- Events and outputs, laid out as its records.
pub mod Entries
