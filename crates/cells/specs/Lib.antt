-- What the contracts of this crate cite besides the definitions of `tsparql`.
pub mod Words
