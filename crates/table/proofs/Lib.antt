-- The laws that the proofs of this crate's functions cite, each file above the ones that use it.
pub mod Keys
pub mod TrustBits
pub mod Passing
pub mod SearchLaws
