-- Laws about the call that reads a typed query.
pub mod WriteLaws
pub mod CallLaws
