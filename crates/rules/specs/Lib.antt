-- Document 01 as definitions, in its order.
pub mod Stages
pub mod Limits
pub mod Number
-- records, and what the check refuses
pub mod Tree
pub mod Table
pub mod Check
pub mod Marks
-- the rules of a reaction
pub mod Memory
pub mod Step
pub mod Run
-- calls
pub mod Calls
pub mod Lists
pub mod Query
pub mod Remaining
-- examples 1 to 12
pub mod Cases
