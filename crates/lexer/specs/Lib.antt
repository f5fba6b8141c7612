-- Symbols as bytes, what they allow, the next token for one, a stack of them, and what the functions promise that scan a text.
pub mod Symbols
pub mod Rules
pub mod NextToken
pub mod Starts
pub mod Stacks
pub mod Steps
