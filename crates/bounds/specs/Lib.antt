-- What the bounds of a push stand for, in the definitions' terms.
pub mod Bounds
