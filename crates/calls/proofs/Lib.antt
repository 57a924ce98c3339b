-- Laws of the calls.
pub mod Judging
pub mod Copying
pub mod Passing
pub mod Passed
pub mod Holding
pub mod Answering
pub mod Reacting
pub mod Listing
pub mod Totals
pub mod Transitions
