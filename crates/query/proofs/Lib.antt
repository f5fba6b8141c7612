-- The laws that the readers' proofs cite.
pub mod ReadLaws
pub mod ConditionParts
pub mod PatternParts
pub mod NodeParts
pub mod Forest
pub mod Operands
