-- Laws about the gathering of a group.
pub mod SetLaws
pub mod StageLaws
pub mod TripleLaws
pub mod PassLaws
pub mod CloseLaws
pub mod GatherLaws
