-- The laws of this crate.
-- Passes that replace rows from the front
pub mod CompactionLaws
