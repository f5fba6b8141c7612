-- The laws of this crate.
-- Writing, one run of bytes behind another
pub mod WritingLaws
-- The text of words
pub mod WordText
-- The text of rows
pub mod RowText
-- How long texts are
pub mod TextSize
-- A text worked out by hand
pub mod Cases
