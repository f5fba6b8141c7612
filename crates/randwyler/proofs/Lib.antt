-- The laws that the calls' proofs cite; demand 3 and the requests on the calls.
pub mod Checks
pub mod Evaluations
pub mod AnsweredRows
pub mod TotalsAnswers
pub mod Demand3
pub mod Replaced
pub mod Requests
