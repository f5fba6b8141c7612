-- Laws about words.
pub mod WordLaws
pub mod LinkLaws
pub mod Balance
