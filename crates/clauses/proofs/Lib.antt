-- Laws about conditions that are read from the left and written.
pub mod TailLaws
pub mod ClauseLaws
pub mod ConnectLaws
pub mod ConditionLaws
