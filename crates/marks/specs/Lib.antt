-- What the functions over marks give.
pub mod Fitting
pub mod Cursors
pub mod Awaited
pub mod Rest
pub mod Leaving
