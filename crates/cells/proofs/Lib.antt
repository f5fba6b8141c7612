-- The laws of this crate.
-- Words and values, there and back; what later layers need
pub mod WordLaws
