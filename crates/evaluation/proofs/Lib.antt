-- The laws that the proofs of evaluation cite.
pub mod NodeLaws
pub mod StepLaws
pub mod AnswerLaws
pub mod OperandLaws
pub mod ReadyLaws
pub mod PartLaws
pub mod NodeSteps
pub mod WholeLaws
