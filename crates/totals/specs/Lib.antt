-- What the contracts of this crate cite besides the definitions of `tsparql` and the words of rows.
pub mod Numbers
pub mod Chains
pub mod Entries
