-- What the contracts of evaluation cite besides the definitions of `tsparql`.
pub mod Operators
pub mod Evaluations
