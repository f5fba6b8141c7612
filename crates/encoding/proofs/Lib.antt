-- What callers know of an output that was written to.
pub mod WriterLaws
