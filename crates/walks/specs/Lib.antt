-- The mirrors of the walks over the arrays of the code, and what the contracts say with them.
pub mod Walks
pub mod Listening
