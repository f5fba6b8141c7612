-- What the readers of patterns answer, in the definitions' terms.
pub mod Answers
