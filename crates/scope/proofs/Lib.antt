-- The laws that the proofs of the check cite.
pub mod Uses
pub mod Patterns
pub mod Walk
pub mod Checks
