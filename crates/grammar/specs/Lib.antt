-- Typed queries (request 6), to be read in this order. What has to be believed is Tokens, Grammar, Meaning and Promise; Sparql is W3C's
-- rules, to compare with. Automaton, TokenMeaning and ReadText are a reader that computes: that it keeps Promise is proved.
pub mod Tokens
pub mod Grammar
pub mod Sparql
pub mod Meaning
pub mod Promise
pub mod Automaton
pub mod TokenMeaning
pub mod ReadText
