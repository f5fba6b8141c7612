-- Laws about blocks.
pub mod Moving
pub mod Holding
pub mod Keeping
