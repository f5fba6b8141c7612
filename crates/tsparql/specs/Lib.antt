-- The definitions of documents 01 and 02, to be read in this order; the last file has those of document 000 that they are compared
-- with. Each file says what it holds and where the rest is.
pub mod Lists
pub mod Values
pub mod Query
pub mod Table
pub mod Conditions
pub mod Rows
pub mod PatternSets
pub mod Tuples
pub mod Ceiling
pub mod Push
pub mod Writing
pub mod Reading
pub mod WellFormed
pub mod Check
pub mod Evaluate
pub mod Rewrite
pub mod Calls
pub mod Totals
pub mod Runs
pub mod Demand3
pub mod Strikes
pub mod Cardinality
