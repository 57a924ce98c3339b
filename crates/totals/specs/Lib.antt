-- The running totals.
pub mod Sum
