-- What the walks do at the tree of a place, by the kind of its record; and what their calls ask.
pub mod Nodes
pub mod Waking
pub mod Listening
