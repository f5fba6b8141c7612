-- What the functions that write a condition promise.
pub mod Tails
pub mod Clauses
