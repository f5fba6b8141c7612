-- The laws that the rewriting's proofs cite.
pub mod PushParts
pub mod PushSteps
pub mod PushWrites
pub mod RewriteCases
