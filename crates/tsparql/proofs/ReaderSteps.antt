-- The readers of conditions and nodes without the bound on depth (specs/Reading.antt): a bound of the part's length or more does not
-- matter, and so each reader is one step of itself.
-- Groups: readers that agree behind a part's start take the same step; an empty part; bounds that are enough;
-- the readers without the bound.
-- Assumes nothing.
use mathlib.Core.Path.{◌≡◌, refl, sym, ap, ◌∙◌}
use mathlib.Core.List.{List}
use Prim.Native.Nat.{ℕ, zero, suc, ◌+◌, ◌/◌, ◌%◌, ◌≤◌}
use native.Mathlib.Nat.{le_refl, le-suc}
use native.Mathlib.Omega.{arith}
use lib.ListN.{length, drop, length-drop}
use Rattle.tsparql.specs.Query.{Condition, negation, conjunction, disjunction}
use Rattle.tsparql.specs.Query.{Node, join, left_join, union, filter, project_trust, ensure_trust}
use Rattle.tsparql.specs.Reading.{Read, got, fault, and_then, require, low_of, low_zero, bits24}
use Rattle.tsparql.specs.Reading.{one_condition, two_conditions, condition_step, read_condition_in, read_condition}
use Rattle.tsparql.specs.Reading.{one_node, two_nodes, after_condition, node_step, read_node_in, read_node}

-- ---- readers that agree behind a part's start take the same step

-- the same finding, and ways to go on that agree at the places behind it
and_then-cong : {A B : Type 0} (at : ℕ) (r r' : Read A) (k k' : A → ℕ → Read B) → r ≡ r'
    → ((a : A) (n : ℕ) → k a (at + n) ≡ k' a (at + n)) → and_then at r k ≡ and_then at r' k'
and_then-cong at r (got a n) k k' e f = rw e (f a n)
and_then-cong at r (fault p) k k' e f = rw e

-- two readers agree on every part of s but s itself
abbrev Agree : {A : Type 0} → (List ℕ → Read A) → (List ℕ → Read A) → List ℕ → Type 0
Agree f g s = (at : ℕ) → 1 ≤ at → f (drop at s) ≡ g (drop at s)

-- two operands, one behind the other, from a place on
two_parts-cong : {A : Type 0} (f g : List ℕ → Read A) (s : List ℕ) → Agree f g s → (at : ℕ) (j : A → A → A) → 1 ≤ at
    → and_then at (f (drop at s)) (λ x mid. and_then mid (f (drop mid s)) (λ y next. got (j x y) next))
    ≡ and_then at (g (drop at s)) (λ x mid. and_then mid (g (drop mid s)) (λ y next. got (j x y) next))
two_parts-cong f g s h at j l =
    and_then-cong at (f (drop at s)) (g (drop at s))
    (λ x mid. and_then mid (f (drop mid s)) (λ y next. got (j x y) next))
    (λ x mid. and_then mid (g (drop mid s)) (λ y next. got (j x y) next))
    (h at l)
    (λ x n. rw (h (at + n) (omega arith)))

condition_step-cong : (f g : List ℕ → Read Condition) (s : List ℕ) → Agree f g s → condition_step f s ≡ condition_step g s
unfolding condition_step
condition_step-cong f g s h = rw (one negation, two conjunction, two disjunction)
  where
    one : (j : Condition → Condition) → one_condition f s j ≡ one_condition g s j
    one j = rw (h 1 (le_refl 1))

    two : (j : Condition → Condition → Condition) → two_conditions f s j ≡ two_conditions g s j
    two j = ap (require (low_zero s)) (two_parts-cong f g s h 1 j (le_refl 1))

node_step-cong : (f g : List ℕ → Read Node) (s : List ℕ) → Agree f g s → node_step f s ≡ node_step g s
unfolding node_step
node_step-cong f g s h =
    rw (
      two 1 join (le_refl 1),
      two 1 union (le_refl 1),
      one 1 (project_trust (low_of s)) (le_refl 1),
      one 4 (ensure_trust (bits24 s 1 / 4096) (bits24 s 1 % 4096)) (omega arith),
      after (λ c at. two_nodes f s at (left_join c)) (λ c at. two_nodes g s at (left_join c)) (λ c at. two at (left_join c)),
      after (λ c at. one_node f s at (filter c)) (λ c at. one_node g s at (filter c)) (λ c at. one at (filter c)),
    )
  where
    one : (at : ℕ) (j : Node → Node) → 1 ≤ at → one_node f s at j ≡ one_node g s at j
    one at j l = rw (h at l)

    two : (at : ℕ) (j : Node → Node → Node) → 1 ≤ at → two_nodes f s at j ≡ two_nodes g s at j
    two = two_parts-cong f g s h

    after : (k k' : Condition → ℕ → Read Node) → ((c : Condition) (at : ℕ) → 1 ≤ at → k c at ≡ k' c at)
        → after_condition s k ≡ after_condition s k'
    after k k' e = and_then-cong 1 (read_condition (drop 1 s)) (read_condition (drop 1 s)) k k' refl (λ c n. e c (1 + n) (omega arith))

-- ---- at an empty part no bound matters

read_condition_in-empty : (k : ℕ) (s : List ℕ) → length s ≡ 0 → read_condition_in k s ≡ fault 0
unfolding read_condition_in condition_step
read_condition_in-empty zero s e = refl
read_condition_in-empty (suc k) s e = rw e

read_node_in-empty : (k : ℕ) (s : List ℕ) → length s ≡ 0 → read_node_in k s ≡ fault 0
unfolding read_node_in node_step
read_node_in-empty zero s e = refl
read_node_in-empty (suc k) s e = rw e

-- ---- two bounds of the part's length or more give the same

-- readers with a bound that are a step, give the fault at an empty part, and whose step looks only behind the part's start
module _ {A : Type 0} (read_in : ℕ → List ℕ → Read A) (step : (List ℕ → Read A) → List ℕ → Read A)
    (empty : (k : ℕ) (s : List ℕ) → length s ≡ 0 → read_in k s ≡ fault 0)
    (deeper : (k : ℕ) (s : List ℕ) → read_in (suc k) s ≡ step (read_in k) s)
    (cong : (f g : List ℕ → Read A) (s : List ℕ) → Agree f g s → step f s ≡ step g s) where
  -- both bounds are enough
  read_in-enough : (k m : ℕ) (s : List ℕ) → length s ≤ k → length s ≤ m → read_in k s ≡ read_in m s
  read_in-enough zero m s h i = empty zero s (omega arith) ∙ sym (empty m s (omega arith))
  read_in-enough (suc k) zero s h i = empty (suc k) s (omega arith) ∙ sym (empty zero s (omega arith))
  read_in-enough (suc k) (suc m) s h i =
      deeper k s
      ∙ cong (read_in k) (read_in m) s
      (λ at l. read_in-enough k m (drop at s) (omega (arith, length-drop at s)) (omega (arith, length-drop at s)))
      ∙ sym (deeper m s)

  -- with the part's length for a bound, the reader is one step of itself
  read_in-step : (s : List ℕ) → read_in (length s) s ≡ step (λ t. read_in (length t) t) s
  read_in-step s =
      read_in-enough (length s) (suc (length s)) s (le_refl _) (le-suc _)
      ∙ deeper (length s) s
      ∙ cong (read_in (length s)) (λ t. read_in (length t) t) s
      (λ at l. read_in-enough (length s) (length (drop at s)) (drop at s) (omega (arith, length-drop at s)) (le_refl _))

-- ---- the readers without the bound: each is one step of itself

pub read_condition-step : (s : List ℕ) → read_condition s ≡ condition_step read_condition s
unfolding read_condition read_condition_in
read_condition-step = read_in-step read_condition_in condition_step read_condition_in-empty (λ k s. refl) condition_step-cong

pub read_node-step : (s : List ℕ) → read_node s ≡ node_step read_node s
unfolding read_node read_node_in
read_node-step = read_in-step read_node_in node_step read_node_in-empty (λ k s. refl) node_step-cong
