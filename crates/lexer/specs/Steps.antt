-- What the functions promise that push a production (`Pushes`) and scan a text (`Scans`). Assumes nothing.
use Rattle.std.specs.Prelude.{◌≡◌, List, ◌++◌, map, ℕ, ◌+◌, ◌≤◌, length, take, Result, Ok, Err}
use Rattle.grammar.specs.Tokens.{Token}
use Rattle.grammar.specs.Automaton.{Symbol, accepted, fault, read}
use Rattle.lexer.specs.Symbols.{packed}
use Rattle.words.specs.Words.{token_word}
use Rattle.lexer.specs.Stacks.{Stacked}
use Rattle.refusals.specs.declared.Fault.{Fault}

-- the symbols of a production on top of a stack, where there is room
abbrev pub Pushes : List ℕ → List ℕ → ℕ → ℕ → ℕ → Type 0
Pushes stack stack' depth production r =
    (α σ : List Symbol) → production ≡ packed α → Stacked stack depth σ → depth + length α ≤ length stack → Stacked stack' r (α ++ σ)

-- the words of the text's tokens from the front, or the place of its fault
abbrev pub Scans : List ℕ → List ℕ → Result ℕ Fault → Type 0
Scans s words (Ok count) = (ts : List Token) × (read s ≡ accepted ts) × (take count words ≡ map token_word ts) × (count ≡ length ts)
Scans s words (Err f) = read s ≡ fault f.0
