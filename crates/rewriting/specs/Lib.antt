-- What the rewriting's functions answer, in the definitions' terms.
pub mod Answers
