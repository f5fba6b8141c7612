-- What a refusal and a reader's answer mean in the definitions' terms.
pub mod Refusals
pub mod Reads
