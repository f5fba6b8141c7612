-- The laws of this crate.
-- Words and rows, there and back; rows of a row space; what later layers need
pub mod RowWordLaws
-- The operators on rows, word by word
pub mod OperatorLaws
-- Runs of words that a loop writes
pub mod PasteLaws
-- Rows that are written behind others
pub mod AppendLaws
