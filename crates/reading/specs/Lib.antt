-- What the reader of a query text promises.
pub mod Answers
