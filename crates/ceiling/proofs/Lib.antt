-- The laws that the proofs of this crate's functions cite, each file above the ones that use it.
pub mod NodeLaws
pub mod AnswerLaws
pub mod CheckedLaws
