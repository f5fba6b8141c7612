-- Laws about typed queries, each file above the ones that use it.
pub mod Basics
pub mod Accepts
pub mod Trees
pub mod Numerals
pub mod TableFacts
pub mod States
pub mod Sound
pub mod Complete
pub mod Faults
pub mod Reading
pub mod Means
pub mod Sizes
pub mod Formed
pub mod Dots
pub mod TextCalls
pub mod Cases
