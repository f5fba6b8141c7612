-- Tokens as words, and where brackets close.
pub mod Words
pub mod Links
