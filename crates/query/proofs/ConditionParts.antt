-- The definitions' reader of a condition is the head, and then its operands (`condition-parts`); no place is behind the end.
-- Assumes nothing.
use mathlib.Core.Path.{◌≡◌, refl, ap, ◌∙◌}
use mathlib.Core.Bool.{Bool, true, false, ◌&&◌, cond}
use mathlib.Core.List.{List}
use Prim.Native.Nat.{ℕ, ◌+◌, ◌-◌, ◌≤◌, zero-le}
use native.Mathlib.Omega.{arith}
use borrow.Author.Tests.{eqb-false, leb-true}
use lib.Dec.{eqb, leb, ltb}
use lib.ListN.{length, get_or, drop}
use Rattle.tsparql.specs.Query.{Condition, same, less, is_term, negation, conjunction, disjunction, always}
use Rattle.tsparql.specs.Reading.{Read, got, fault, and_then, require, kind_of, low_of, bits24, term_sound, condition_step, read_condition}
use Rattle.tsparql.proofs.ListLaws.{and_left}
use Rattle.tsparql.proofs.ReaderSteps.{read_condition-step}
use Rattle.tsparql.proofs.WrittenRead.{read_condition-sound}
use Rattle.tsparql.specs.WellFormed.{ConditionFormed}
use Rattle.tsparql.specs.Writing.{condition_bytes}
use Rattle.heads.specs.declared.ConditionHead.{ConditionHead}
use Rattle.heads.specs.declared.ConditionHead.TheVariants as C
use Rattle.heads.specs.Parts.{pair_head, term_head, connective, condition_head_read, condition_operands}
use Rattle.query.specs.Answers.{condition_head}
use Rattle.query.specs.Parts.{map_read, follow, conditions_from}
use Rattle.query.proofs.ReadLaws.{place_of, by_kind, no_kind, cond_cases, require-cases, one-part, two-parts}
use Rattle.query.proofs.ReadLaws.{from-fault, from_next, reads-inside}

-- the operands of a head, behind its own bytes
abbrev pub conditions_after : List ℕ → ConditionHead → ℕ → Read (Unit {0})
conditions_after s h own = conditions_from (condition_operands h) own s

-- a head with the place behind its operands
abbrev pub operands_of : List ℕ → ConditionHead → ℕ → Read ConditionHead
operands_of s h own = map_read (λ _. h) (conditions_after s h own)

-- ---- the leaves

pair_parts : (s : List ℕ) (n : ℕ) (is_same : Bool) (f : ℕ → ℕ → Condition)
    → ((v w : ℕ) → condition_head (f v w) ≡ cond is_same (C.Same v w) (C.Less v w))
    → ((v w : ℕ) → condition_operands (cond is_same (C.Same v w) (C.Less v w)) ≡ 0)
    → map_read condition_head (require (leb 2 (length s) && ltb (get_or s 1 0) 16) (got (f n (get_or s 1 0)) 2))
    ≡ follow (pair_head s n is_same) (operands_of s)
unfolding conditions_from
pair_parts s n is_same f h z = go (leb 2 (length s) && ltb (get_or s 1 0) 16)
  where
    go : (b : Bool)
        → map_read condition_head (require b (got (f n (get_or s 1 0)) 2))
        ≡ follow (require b (got (cond is_same (C.Same n (get_or s 1 0)) (C.Less n (get_or s 1 0))) 2)) (operands_of s)
    go true = rw (z n (get_or s 1 0), h n (get_or s 1 0))
    go false = refl

term-parts : (s : List ℕ) (n : ℕ)
    → map_read condition_head (require (leb 4 (length s) && term_sound (bits24 s 1)) (got (is_term n (bits24 s 1)) 4))
    ≡ follow (term_head s n) (operands_of s)
unfolding conditions_from
term-parts s n = go (leb 4 (length s) && term_sound (bits24 s 1))
  where
    go : (b : Bool)
        → map_read condition_head (require b (got (is_term n (bits24 s 1)) 4)) ≡ follow (require b (got (C.IsTerm n (bits24 s 1)) 4)) (operands_of s)
    go true = refl
    go false = refl

-- ---- operands

one-operand : (s : List ℕ) (b : Bool) (f : Condition → Condition) (h : ConditionHead) → ((c : Condition) → condition_head (f c) ≡ h)
    → condition_operands h ≡ 1
    → map_read condition_head (require b (and_then 1 (read_condition (drop 1 s)) (λ c next. got (f c) next)))
    ≡ follow (require b (got h 1)) (operands_of s)
unfolding conditions_from
one-operand s true f h e n = rw n (one-part condition_head h 1 f e (read_condition (drop 1 s)))
one-operand s false f h e n = refl

two_operands : (s : List ℕ) (b : Bool) (f : Condition → Condition → Condition) (h : ConditionHead)
    → ((c d : Condition) → condition_head (f c d) ≡ h) → condition_operands h ≡ 2
    → map_read condition_head
    (require b
    (and_then 1 (read_condition (drop 1 s))
    (λ c at. and_then at (read_condition (drop at s)) (λ d next. got (f c d) next))))
    ≡ follow (require b (got h 1)) (operands_of s)
unfolding conditions_from
two_operands s true f h e n = rw n (two-parts condition_head h (λ at. read_condition (drop at s)) 1 f e (read_condition (drop 1 s)))
two_operands s false f h e n = refl

-- ---- the reader

-- the head, and then its operands
pub condition-parts : (s : List ℕ) → map_read condition_head (read_condition s) ≡ follow (condition_head_read s) (operands_of s)
unfolding condition_step condition_head_read conditions_from
condition-parts s = ap (map_read condition_head) (read_condition-step s) ∙ go (eqb (length s) 0) refl
  where
    go : (b : Bool) → eqb (length s) 0 ≡ b
        → map_read condition_head (condition_step read_condition s) ≡ follow (condition_head_read s) (operands_of s)
    go true e = rw e
    go false e =
        by_kind (kind_of s)
        (λ k. rw (e, k))
        (λ k. rw (e, k) (pair_parts s (low_of s) true same (λ v w. refl) (λ v w. refl)))
        (λ k. rw (e, k) (term-parts s (low_of s)))
        (λ k. rw (e, k) (pair_parts s (low_of s) false less (λ v w. refl) (λ v w. refl)))
        (λ k. rw (e, k) (one-operand s (eqb (low_of s) 0) negation C.Not (λ c. refl) refl))
        (λ k. rw (e, k) (two_operands s (eqb (low_of s) 0) conjunction C.And (λ c d. refl) refl))
        (λ k. rw (e, k) (two_operands s (eqb (low_of s) 0) disjunction C.Or (λ c d. refl) refl))
        (λ k. rw (e, k) (last (eqb (low_of s) 0)))
        (λ k. rw (
          e,
          no_kind k 0 (omega arith),
          no_kind k 1 (omega arith),
          no_kind k 2 (omega arith),
          no_kind k 3 (omega arith),
          no_kind k 4 (omega arith),
          no_kind k 5 (omega arith),
          no_kind k 6 (omega arith),
          no_kind k 7 (omega arith),
        ) (none (eqb (low_of s) 0)))
      where
        last : (b : Bool) → map_read condition_head (require b (got always 1)) ≡ follow (require b (got C.True 1)) (operands_of s)
        last true = refl
        last false = refl

        none : (b : Bool) → fault 0 ≡ follow (require b (fault 0)) (operands_of s)
        none true = refl
        none false = refl

-- ---- places

-- a reader's place is inside its part
pub condition-inside : (s : List ℕ) → place_of (read_condition s) ≤ length s
condition-inside s = reads-inside ConditionFormed condition_bytes s (read_condition s) (read_condition-sound s)

-- a head's own bytes are there, one at least, and it has two operands at most
abbrev HeadInside : ℕ → Read ConditionHead → Type 0
HeadInside n (got h own) = (1 ≤ own) × (own ≤ n) × (condition_operands h ≤ 2)
HeadInside n (fault p) = Unit {0}

pair_inside : (s : List ℕ) (n : ℕ) (is_same : Bool) → HeadInside (length s) (pair_head s n is_same)
pair_inside s n is_same =
    require-cases (HeadInside (length s)) (leb 2 (length s) && ltb (get_or s 1 0) 16) _ tt λ e.
    (omega arith, leb-true 2 (length s) (and_left (leb 2 (length s)) (ltb (get_or s 1 0) 16) e), few is_same)
  where
    few : (b : Bool) → condition_operands (cond b (C.Same n (get_or s 1 0)) (C.Less n (get_or s 1 0))) ≤ 2
    few true = zero-le
    few false = zero-le

term-inside : (s : List ℕ) (n : ℕ) → HeadInside (length s) (term_head s n)
term-inside s n =
    require-cases (HeadInside (length s)) (leb 4 (length s) && term_sound (bits24 s 1)) _ tt λ e.
    (omega arith, leb-true 4 (length s) (and_left (leb 4 (length s)) (term_sound (bits24 s 1)) e), zero-le)

connective-inside : (n kind low : ℕ) → 1 ≤ n → HeadInside n (connective kind low)
connective-inside n kind low h =
    require-cases P (eqb low 0) _ tt
    λ _. cond_cases P (eqb kind 4) _ _ (λ _. (omega arith, h, omega arith))
    λ _. cond_cases P (eqb kind 5) _ _ (λ _. (omega arith, h, omega arith))
    λ _. cond_cases P (eqb kind 6) _ _ (λ _. (omega arith, h, omega arith))
    λ _. cond_cases P (eqb kind 7) _ _ (λ _. (omega arith, h, omega arith)) (λ _. tt)
  where
    P : Read ConditionHead → Type 0
    P = HeadInside n

head-inside : (s : List ℕ) → HeadInside (length s) (condition_head_read s)
unfolding condition_head_read
head-inside s =
    cond_cases P (eqb (length s) 0) _ _ (λ _. tt)
    λ e. let long : 1 ≤ length s = omega (arith, eqb-false (length s) 0 e) in
    cond_cases P (eqb (kind_of s) 0) _ _ (λ _. (omega arith, long, zero-le))
    λ _. cond_cases P (eqb (kind_of s) 1) _ _ (λ _. pair_inside s (low_of s) true)
    λ _. cond_cases P (eqb (kind_of s) 2) _ _ (λ _. term-inside s (low_of s))
    λ _. cond_cases P (eqb (kind_of s) 3) _ _ (λ _. pair_inside s (low_of s) false)
    (λ _. connective-inside (length s) (kind_of s) (low_of s) long)
  where
    P : Read ConditionHead → Type 0
    P = HeadInside (length s)

pub condition-head-inside : (s : List ℕ) {h : ConditionHead} {own : ℕ} → condition_head_read s ≡ got h own
    → (1 ≤ own) × (own ≤ length s) × (condition_operands h ≤ 2)
condition-head-inside s e = rw e at (head-inside s)

-- ---- the code's steps

-- the next of n conditions faults, or leaves those behind it
pub conditions-none : (s : List ℕ) (at : ℕ) → conditions_from 0 at s ≡ got tt at
unfolding conditions_from
conditions-none s at = refl

pub conditions-fault : (s : List ℕ) (n at p : ℕ) → 1 ≤ n → map_read condition_head (read_condition (drop at s)) ≡ fault p
    → conditions_from n at s ≡ fault (at + p)
unfolding conditions_from
conditions-fault = from-fault condition_head read_condition conditions_from (λ n at s. refl)

pub conditions-next : (s : List ℕ) (n at k : ℕ) (h : ConditionHead) → 1 ≤ n → map_read condition_head (read_condition (drop at s)) ≡ got h k
    → conditions_from n at s ≡ conditions_from (n - 1) (at + k) s
unfolding conditions_from
conditions-next = from_next condition_head read_condition conditions_from (λ n at s. refl)
