-- A token that begins at a place (`Begins`). Assumes nothing.
use Rattle.std.specs.Prelude.{Bool, List, ℕ}
use Rattle.grammar.specs.Automaton.{Symbol}
use Rattle.lexer.specs.Symbols.{Gives}
use Rattle.lexer.specs.NextToken.{Step}
use Rattle.lexer.specs.declared.start.Start.{Start}

-- r is what f gives where a token begins, for the symbol on top
abbrev pub Begins : (Symbol → Bool → List ℕ → ℕ → Step) → Start → Step → Type 0
Begins f s r = Gives s.symbol (λ X. f X s.tight s.here.text.now s.here.at) r
