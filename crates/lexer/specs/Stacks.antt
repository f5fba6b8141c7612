-- A stack of symbols in a buffer. Assumes nothing.
use Rattle.std.specs.Prelude.{◌≡◌, List, map, reverse, ℕ, length, take}
use Rattle.grammar.specs.Automaton.{Symbol}
use Rattle.lexer.specs.Symbols.{code}

-- the stack σ, its top at the end of what the buffer holds
pub record Stacked (stack : List ℕ) (depth : ℕ) (σ : List Symbol) : Type 0 where
  pub size : depth ≡ length σ
  pub front : take depth stack ≡ reverse (map code σ)
