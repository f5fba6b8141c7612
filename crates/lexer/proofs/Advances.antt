-- What the next token for the symbol on top means to the automaton: it goes on behind the token with the production pushed (`Took`), or
-- stops at the fault (`Advanced`). Assumes nothing.
use mathlib.Core.Path.{◌≡◌}
use mathlib.Core.Bool.{Bool}
use mathlib.Core.List.{List, [], ◌∷◌, ◌++◌}
use Prim.Native.Nat.{ℕ, ◌+◌, ◌*◌, ◌-◌, ◌≤◌, ◌<◌}
use lib.ListN.{length, drop}
use Rattle.grammar.specs.Tokens.{Token, is_word_number_or_variable}
use Rattle.grammar.specs.Automaton.{Symbol, gap, fault, after, run}
use Rattle.words.specs.Words.{token_word}
use Rattle.lexer.specs.Symbols.{packed}
use Rattle.std.proofs.Common.{Ok, Err}
use Rattle.lexer.specs.NextToken.{Step}
use Rattle.lexer.specs.declared.Lexeme.{Lexeme}

-- l is a token that the symbol X allows at `at`, and what has to come after it
pub record Took (s : List ℕ) (at : ℕ) (tight : Bool) (X : Symbol) (l : Lexeme) : Type 0 where
  pub token : Token
  pub production : List Symbol
  pub word : l.word ≡ token_word token
  pub pushes : l.production ≡ packed production
  pub ends : l.tight ≡ is_word_number_or_variable token
  pub forward : at < l.next
  pub inside : l.next ≤ length s
  pub few : length production ≤ 1 + 2 * (l.next - at)
  pub runs :
      (σ : List Symbol)
      → run (drop at s) at (gap tight (X ∷ σ))
      ≡ after (token ∷ []) (run (drop l.next s) l.next (gap (is_word_number_or_variable token) (production ++ σ)))

-- a token, or the place of the fault
abbrev pub Advanced : List ℕ → ℕ → Bool → Symbol → Step → Type 0
Advanced s at tight X (Ok l) = Took s at tight X l
Advanced s at tight X (Err f) = (σ : List Symbol) → run (drop at s) at (gap tight (X ∷ σ)) ≡ fault f.0
