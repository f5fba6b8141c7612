-- The variables of a query, and the answer of its check.
pub mod Variables
