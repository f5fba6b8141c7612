-- Laws about the automaton's run, and about white space, numbers and fixed tokens at a place of the text.
pub mod RunLaws
pub mod SpaceLaws
pub mod NumberLaws
pub mod CompareLaws
pub mod FixedLaws
