-- What the calls for C answer, in the definitions' terms.
pub mod Answers
