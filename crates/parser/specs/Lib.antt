-- What the functions that join nodes in a buffer promise, and where the gathering of a group stands.
pub mod Sets
pub mod Stages
