-- What the query readers answer, in the definitions' terms.
pub mod Answers
pub mod Parts
pub mod Found
