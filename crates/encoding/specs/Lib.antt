-- The bytes that the writers put into an output.
pub mod Writers
