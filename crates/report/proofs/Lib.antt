-- The laws of this crate.
-- The report of an evaluation by its answer and its row space
pub mod ReportLaws
-- Files that are too long
pub mod LongFiles
-- The text fits into 200,000 bytes
pub mod WholeText
