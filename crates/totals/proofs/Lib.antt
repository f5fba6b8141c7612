-- The laws that the functions' proofs cite.
pub mod GroupLaws
pub mod ChainLaws
pub mod NumberLaws
pub mod EntryLaws
