-- A disjunction is a first primary and a tail (`disjunction-tail`), with the same words and the same condition; and the bytes that were
-- written so far are the front of the condition's (`or_bytes_lem`, `and_bytes_lem`, `not-bytes`, `ends-least`). Assumes nothing.
use mathlib.Core.Path.{◌≡◌, refl, ap, ◌∙◌}
use mathlib.Core.List.{List, [], ◌∷◌, ◌++◌}
use mathlib.Core.Option.{Option, none, some}
use Prim.Native.Nat.{ℕ, zero, suc, ◌+◌, ◌≤◌}
use native.Mathlib.Omega.{arith}
use lib.ListN.{length, length-append}
use Rattle.tsparql.specs.Query as Q
use Rattle.tsparql.specs.Query.{Condition}
use Rattle.tsparql.specs.Writing.{condition_bytes}
use Rattle.grammar.specs.Tokens.{Token, mark, OR}
use Rattle.grammar.specs.Grammar.{Disjunction, conjuncts, either, disjunction_tokens}
use Rattle.grammar.specs.Grammar.{Conjunction, single, both, conjunction_tokens, Primary, primary_tokens}
use Rattle.grammar.specs.Meaning.{disjunction_of, conjunction_of, primary_of}
use Rattle.clauses.specs.Tails.{Tail, close, and_then, or_then, tail_tokens, ends_as}
use Rattle.clauses.specs.Tails.{or_with, and_with, or_bytes, and_bytes, negations, not_bytes}

-- ---- a first primary and a tail

-- tokens that are a first primary's and a tail's, and with what stands before the last `||` mean the condition `final`
pub record Parted (tokens : List Token → List Token) (before : Option Condition) (final : Condition) : Type 0 where
  pub first : Primary
  pub later : Tail
  pub written : (rest : List Token) → tokens rest ≡ primary_tokens first (tail_tokens later rest)
  pub means : ends_as before (primary_of first) later ≡ final

conjunction-tail :
    (c : Conjunction) (r : Tail) (before : Option Condition)
    → Parted (λ rest. conjunction_tokens c (tail_tokens r rest)) before (ends_as before (conjunction_of c) r)
unfolding conjunction_of
conjunction-tail (single p) r before = record { first = p; later = r; written = λ rest. refl; means = refl }
conjunction-tail (both c p) r before =
    let h = conjunction-tail c (and_then p r) before in
    record { first = h.first; later = h.later; written = h.written; means = h.means }

-- what stands before the last `||`
before_last : Disjunction → Option Condition
before_last (conjuncts c) = none
before_last (either d c) = some (disjunction_of d)

-- and behind it
last : Disjunction → Conjunction
last (conjuncts c) = c
last (either d c) = c

split : (d : Disjunction) → or_with (before_last d) (conjunction_of (last d)) ≡ disjunction_of d
unfolding disjunction_of before_last last
split (conjuncts c) = refl
split (either d c) = refl

disjunction-before :
    (d : Disjunction) (r : Tail)
    → Parted (λ rest. disjunction_tokens d (tail_tokens r rest)) none (ends_as (before_last d) (conjunction_of (last d)) r)
unfolding before_last last
disjunction-before (conjuncts c) r = conjunction-tail c r none
disjunction-before (either d c) r =
    let h = conjunction-tail c r (some (disjunction_of d)) in
    let g = disjunction-before d (or_then h.first h.later) in
    record {
      first = g.first;
      later = g.later;
      written = λ rest. ap (λ (ts : List Token). disjunction_tokens d (mark OR ∷ ts)) (h.written rest) ∙ g.written rest;
      means = g.means ∙ ap (λ (o : Condition). ends_as (some o) (primary_of h.first) h.later) (split d) ∙ h.means;
    }

pub disjunction-tail : (d : Disjunction) → Parted (disjunction_tokens d) none (disjunction_of d)
disjunction-tail d =
    let g = disjunction-before d close in
    record { first = g.first; later = g.later; written = g.written; means = g.means ∙ split d }

-- ---- bytes

pub or_bytes_lem : (o : Option Condition) (c : Condition) → or_bytes o ++ condition_bytes c ≡ condition_bytes (or_with o c)
unfolding condition_bytes
or_bytes_lem none c = refl
or_bytes_lem (some d) c = refl

pub and_bytes_lem : (o : Option Condition) (c : Condition) → and_bytes o ++ condition_bytes c ≡ condition_bytes (and_with o c)
unfolding condition_bytes
and_bytes_lem none c = refl
and_bytes_lem (some d) c = refl

-- one more '!' stands last among them
pub not_more : (n : ℕ) → not_bytes n ++ (64 ∷ []) ≡ not_bytes (suc n)
not_more (zero) = refl
not_more (suc n) = ap (λ (l : List ℕ). 64 ∷ l) (not_more n)

pub not-bytes : (n : ℕ) (c : Condition) → not_bytes n ++ condition_bytes c ≡ condition_bytes (negations n c)
unfolding condition_bytes
not-bytes (zero) c = refl
not-bytes (suc n) c = moved n ∙ not-bytes n (Q.negation c)
  where
    moved : (j : ℕ) → 64 ∷ (not_bytes j ++ condition_bytes c) ≡ not_bytes j ++ (64 ∷ condition_bytes c)
    moved (zero) = refl
    moved (suc j) = ap (λ (l : List ℕ). 64 ∷ l) (moved j)

-- the operators to come
abbrev pub operators : Tail → ℕ
operators close = 0
operators (and_then p r) = suc (operators r)
operators (or_then p r) = suc (operators r)

-- the condition that it ends as has the bytes so far, and a byte for each of them
pub ends-least :
    (r : Tail) (o : Option Condition) (c : Condition)
    → length (or_bytes o) + length (condition_bytes c) + operators r ≤ length (condition_bytes (ends_as o c r))
unfolding condition_bytes
ends-least close o c = omega (arith, ap length (or_bytes_lem o c), length-append (or_bytes o) (condition_bytes c))
ends-least (and_then p r) o c =
    let h = ends-least r o (Q.conjunction c (primary_of p)) in
    omega (arith, length-append (condition_bytes c) (condition_bytes (primary_of p)))
ends-least (or_then p r) o c =
    let h = ends-least r (some (or_with o c)) (primary_of p) in
    omega (arith, ap length (or_bytes_lem o c), length-append (or_bytes o) (condition_bytes c))
