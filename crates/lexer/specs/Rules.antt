-- What a symbol of the automaton allows at a first byte, and when a rule is for them (`covering`). Assumes nothing.
use Rattle.std.specs.Prelude.{Bool, cond, ◌&&◌, List, ℕ, eqb, leb, Option, Some, None}
use Rattle.std.proofs.Math.Option as O
use Rattle.grammar.specs.Automaton.{Symbol, Entry, marks, vars, terms, find}
use Rattle.lexer.specs.Symbols.{packed}
use Rattle.lexer.specs.declared.Rule.{Rule}

-- whether a rule is for a symbol and a first byte
abbrev pub covering : Rule → ℕ → ℕ → Bool
covering rule symbol first = leb rule.0 symbol && (leb symbol rule.1 && eqb first rule.2)

-- what has to come after the fixed token of an entry
abbrev pub production_of : O.Option Entry → O.Option (List Symbol)
production_of O.none = O.none
production_of (O.some e) = O.some e.1

-- what has to come after a token with this first byte; a term goes by the digit 0
abbrev pub allows : Symbol → ℕ → O.Option (List Symbol)
allows X first = cond (eqb first 63) (vars X) (cond (eqb first 48) (terms X) (production_of (find first (marks X))))

-- the same as an answer
abbrev pub follow_of : O.Option (List Symbol) → Option ℕ
follow_of O.none = None
follow_of (O.some α) = Some (packed α)

-- of a symbol
abbrev pub follows : Symbol → ℕ → Option ℕ
follows X first = follow_of (allows X first)
