-- What the readers of heads answer, in the definitions' terms.
pub mod Answers
pub mod Parts
