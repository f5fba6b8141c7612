-- A condition read from the left: what follows a primary (`Tail`), what is made of it with what was read before (`ends_as`), and the bytes
-- that were then written. Assumes nothing.
use Rattle.std.specs.Prelude.{List, [], ◌∷◌, ℕ, suc, zero}
use Rattle.std.proofs.Math.Option.{Option, none, some}
use Rattle.tsparql.specs.Query as Q
use Rattle.tsparql.specs.Query.{Condition}
use Rattle.tsparql.specs.Writing.{condition_bytes}
use Rattle.grammar.specs.Tokens.{Token, mark, AND, OR}
use Rattle.grammar.specs.Grammar.{Primary, primary_tokens}
use Rattle.grammar.specs.Meaning.{primary_of}

-- the operators and primaries behind a primary
pub data Tail : Type 0 where
  close : Tail
  and_then : Primary → Tail → Tail
  or_then : Primary → Tail → Tail

-- its tokens, before others
abbrev pub tail_tokens : Tail → List Token → List Token
tail_tokens close rest = rest
tail_tokens (and_then p r) rest = mark AND ∷ primary_tokens p (tail_tokens r rest)
tail_tokens (or_then p r) rest = mark OR ∷ primary_tokens p (tail_tokens r rest)

-- what stands before `||`, if anything, with what stands behind it
abbrev pub or_with : Option Condition → Condition → Condition
or_with none c = c
or_with (some before) c = Q.disjunction before c

-- what stands before `&&`, if anything, with what stands behind it
abbrev pub and_with : Option Condition → Condition → Condition
and_with none c = c
and_with (some before) c = Q.conjunction before c

-- the bytes of `||` and of what stands before it
abbrev pub or_bytes : Option Condition → List ℕ
or_bytes none = []
or_bytes (some before) = 96 ∷ condition_bytes before

-- the bytes of `&&` and of what stands before it
abbrev pub and_bytes : Option Condition → List ℕ
and_bytes none = []
and_bytes (some before) = 80 ∷ condition_bytes before

-- a condition negated so many times
abbrev pub negations : ℕ → Condition → Condition
negations zero c = c
negations (suc n) c = negations n (Q.negation c)

-- the bytes of so many `!`
abbrev pub not_bytes : ℕ → List ℕ
not_bytes zero = []
not_bytes (suc n) = 64 ∷ not_bytes n

-- the condition of what stands before the last `||`, of the conjunction behind it, and of the tail
abbrev pub ends_as : Option Condition → Condition → Tail → Condition
ends_as before c close = or_with before c
ends_as before c (and_then p r) = ends_as before (Q.conjunction c (primary_of p)) r
ends_as before c (or_then p r) = ends_as (some (or_with before c)) (primary_of p) r
