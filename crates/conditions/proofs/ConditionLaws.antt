-- The definitions' reader of a condition by its head (`condition-tree`), and from it the truth of a condition on a row's cells by its
-- head and its operands, in the order of the code: no operand, a fault of the first, one, a fault of the second, two.
-- Assumes nothing.
use mathlib.Core.Path.{◌≡◌, refl, sym, ap, subst, ◌∙◌}
use mathlib.Core.Bool.{Bool, true, false, ◌&&◌, cond}
use mathlib.Core.List.{List}
use Prim.Native.Nat.{ℕ, ◌+◌, ◌≤◌}
use native.Mathlib.Omega.{arith}
use lib.Dec.{eqb, leb, ltb}
use lib.ListN.{length, get_or, drop}
use Rattle.tsparql.specs.Values.{Cell}
use Rattle.tsparql.specs.Query.{Condition, bound, same, is_term, less, negation, conjunction, disjunction, always}
use Rattle.tsparql.specs.Conditions as Conditions
use Rattle.tsparql.specs.Conditions.{truth_on}
use Rattle.tsparql.specs.Reading.{Read, got, fault, and_then, require, kind_of, low_of, bits24, term_sound, condition_step, read_condition}
use Rattle.tsparql.proofs.ReaderSteps.{read_condition-step}
use Rattle.tsparql.proofs.WrittenRead.{ReadsCondition, read_condition-sound}
use Rattle.heads.specs.declared.ConditionHead.{ConditionHead}
use Rattle.heads.specs.declared.ConditionHead.TheVariants as C
use Rattle.heads.specs.Parts.{pair_head, term_head, condition_head_read, condition_operands}
use Rattle.query.specs.Parts.{map_read, follow}
use Rattle.query.specs.Found.{IsGot}
use Rattle.query.proofs.ReadLaws.{by_kind, no_kind, made_fault, made_by}
use Rattle.conditions.specs.Truths.{truth_in, ConditionSound, found_condition, condition_of, HeadFormed, head_truth, Judges}
use Rattle.conditions.specs.declared.Truth.{Truth}
use Rattle.std.specs.Prelude.{Ok, Err}
use Rattle.refusals.specs.declared.Fault.{Fault}

-- ---- a condition by its head

module _ (s : List ℕ) where
  -- one condition from a place on
  abbrev one_at : ℕ → (Condition → Condition) → Read Condition
  one_at own f = and_then own (read_condition (drop own s)) (λ c next. got (f c) next)

  -- two conditions from a place on
  abbrev two_at : ℕ → (Condition → Condition → Condition) → Read Condition
  two_at own f =
      and_then own (read_condition (drop own s)) (λ c at. and_then at (read_condition (drop at s)) (λ d next. got (f c d) next))

  -- the condition of a head, with its operands behind the head's own bytes
  abbrev tree_of : ConditionHead → ℕ → Read Condition
  tree_of (C.Bound v) own = got (bound v) own
  tree_of (C.Same v w) own = got (same v w) own
  tree_of (C.IsTerm v a) own = got (is_term v a) own
  tree_of (C.Less v w) own = got (less v w) own
  tree_of C.Not own = one_at own negation
  tree_of C.And own = two_at own conjunction
  tree_of C.Or own = two_at own disjunction
  tree_of C.True own = got always own

  pair-tree : (n : ℕ) (is_same : Bool) (f : ℕ → ℕ → Condition)
      → ((v w : ℕ) → tree_of (cond is_same (C.Same v w) (C.Less v w)) 2 ≡ got (f v w) 2)
      → require (leb 2 (length s) && ltb (get_or s 1 0) 16) (got (f n (get_or s 1 0)) 2) ≡ follow (pair_head s n is_same) tree_of
  pair-tree n is_same f h = go (leb 2 (length s) && ltb (get_or s 1 0) 16)
    where
      go : (b : Bool)
          → require b (got (f n (get_or s 1 0)) 2)
          ≡ follow (require b (got (cond is_same (C.Same n (get_or s 1 0)) (C.Less n (get_or s 1 0))) 2)) tree_of
      go true = sym (h n (get_or s 1 0))
      go false = refl

  term-tree : (n : ℕ)
      → require (leb 4 (length s) && term_sound (bits24 s 1)) (got (is_term n (bits24 s 1)) 4) ≡ follow (term_head s n) tree_of
  term-tree n = go (leb 4 (length s) && term_sound (bits24 s 1))
    where
      go : (b : Bool) → require b (got (is_term n (bits24 s 1)) 4) ≡ follow (require b (got (C.IsTerm n (bits24 s 1)) 4)) tree_of
      go true = refl
      go false = refl

  -- a head that is there where n is 0
  plain-tree : (b : Bool) (h : ConditionHead) → require b (tree_of h 1) ≡ follow (require b (got h 1)) tree_of
  plain-tree true h = refl
  plain-tree false h = refl

  -- the head, and then its operands
  condition-tree : read_condition s ≡ follow (condition_head_read s) tree_of
  unfolding condition_step condition_head_read
  condition-tree = read_condition-step s ∙ go (eqb (length s) 0) refl
    where
      go : (b : Bool) → eqb (length s) 0 ≡ b → condition_step read_condition s ≡ follow (condition_head_read s) tree_of
      go true e = rw e
      go false e =
          by_kind (kind_of s)
          (λ k. rw (e, k))
          (λ k. rw (e, k) (pair-tree (low_of s) true same (λ v w. refl)))
          (λ k. rw (e, k) (term-tree (low_of s)))
          (λ k. rw (e, k) (pair-tree (low_of s) false less (λ v w. refl)))
          (λ k. rw (e, k) (plain-tree (eqb (low_of s) 0) C.Not))
          (λ k. rw (e, k) (plain-tree (eqb (low_of s) 0) C.And))
          (λ k. rw (e, k) (plain-tree (eqb (low_of s) 0) C.Or))
          (λ k. rw (e, k) (plain-tree (eqb (low_of s) 0) C.True))
          (λ k. rw (
            e,
            no_kind k 0 (omega arith),
            no_kind k 1 (omega arith),
            no_kind k 2 (omega arith),
            no_kind k 3 (omega arith),
            no_kind k 4 (omega arith),
            no_kind k 5 (omega arith),
            no_kind k 6 (omega arith),
            no_kind k 7 (omega arith),
          ) (none (eqb (low_of s) 0)))
        where
          none : (b : Bool) → fault 0 ≡ follow (require b (fault 0)) tree_of
          none true = refl
          none false = refl

  tree-at : {h : ConditionHead} {own : ℕ} → condition_head_read s ≡ got h own → read_condition s ≡ tree_of h own
  tree-at e = condition-tree ∙ rw e

  -- a head's fault is the condition's
  pub head-fault : {p : ℕ} → condition_head_read s ≡ fault p → read_condition s ≡ fault p
  head-fault e = condition-tree ∙ rw e

  formed : {h : ConditionHead} {own : ℕ} → condition_head_read s ≡ got h own → ReadsCondition s (tree_of h own)
  formed e = rw (tree-at e) at (read_condition-sound s)

  -- the variables of a head that was read are in range
  pub head-formed : (h : ConditionHead) (own : ℕ) → condition_head_read s ≡ got h own → HeadFormed h
  head-formed (C.Bound v) own e = (formed e).0
  head-formed (C.Same v w) own e = (formed e).0
  head-formed (C.IsTerm v a) own e = (formed e).0.0
  head-formed (C.Less v w) own e = (formed e).0
  head-formed C.Not own e = tt
  head-formed C.And own e = tt
  head-formed C.Or own e = tt
  head-formed C.True own e = tt

-- ---- its truth on a row's cells

module _ (s : List ℕ) (cs : List Cell) where
  abbrev T : Condition → Conditions.Truth
  T = truth_on cs

  -- the truth found from a place on
  abbrev pub judged_at : ℕ → Read Conditions.Truth
  judged_at at = map_read T (read_condition (drop at s))

  one-made : (f : Condition → Condition) (g : Conditions.Truth → Conditions.Truth) → ((c : Condition) → T (f c) ≡ g (T c))
      → (own k : ℕ) (t : Conditions.Truth) → judged_at own ≡ got t k → map_read T (one_at s own f) ≡ got (g t) (own + k)
  one-made f g h own k t e =
      made_by T (λ r. map_read T (and_then own r (λ c next. got (f c) next)) ≡ got (g t) (own + k)) (read_condition (drop own s)) t k e
      (λ c d. rw (h c, d))

  second-made : (f : Condition → Condition → Condition) (own k p : ℕ) (t : Conditions.Truth) → judged_at own ≡ got t k
      → judged_at (own + k) ≡ fault p → two_at s own f ≡ fault (own + k + p)
  second-made f own k p t e d =
      made_by T (λ r. and_then own r (λ c at. one_at s at (f c)) ≡ fault (own + k + p)) (read_condition (drop own s)) t k e
      (λ c _. rw (made_fault T (read_condition (drop (own + k) s)) p d))

  two_made : (f : Condition → Condition → Condition) (g : Conditions.Truth → Conditions.Truth → Conditions.Truth)
      → ((c d : Condition) → T (f c d) ≡ g (T c) (T d)) → (own k m : ℕ) (t u : Conditions.Truth) → judged_at own ≡ got t k
      → judged_at (own + k) ≡ got u m → map_read T (two_at s own f) ≡ got (g t u) (own + k + m)
  two_made f g h own k m t u e d =
      made_by T (λ r. map_read T (and_then own r (λ c at. one_at s at (f c))) ≡ got (g t u) (own + k + m)) (read_condition (drop own s)) t k e
      (λ c b. one-made (f c) (g t) (λ x. h c x ∙ rw b) (own + k) m u d)

  module _ (own : ℕ) where
    -- no operand
    pub none-judged : (h : ConditionHead) (t u : Conditions.Truth) → condition_head_read s ≡ got h own → condition_operands h ≡ 0
        → map_read T (read_condition s) ≡ got (head_truth cs h t u) own
    unfolding truth_on
    none-judged (C.Bound v) t u e z = rw (tree-at s e)
    none-judged (C.Same v w) t u e z = rw (tree-at s e)
    none-judged (C.IsTerm v a) t u e z = rw (tree-at s e)
    none-judged (C.Less v w) t u e z = rw (tree-at s e)
    none-judged C.Not t u e z = absurd (omega arith)
    none-judged C.And t u e z = absurd (omega arith)
    none-judged C.Or t u e z = absurd (omega arith)
    none-judged C.True t u e z = rw (tree-at s e)

    -- a fault of the first operand
    pub first-fault : (h : ConditionHead) (p : ℕ) → condition_head_read s ≡ got h own → 1 ≤ condition_operands h → judged_at own ≡ fault p
        → read_condition s ≡ fault (own + p)
    first-fault (C.Bound v) p e n f = absurd (omega arith)
    first-fault (C.Same v w) p e n f = absurd (omega arith)
    first-fault (C.IsTerm v a) p e n f = absurd (omega arith)
    first-fault (C.Less v w) p e n f = absurd (omega arith)
    first-fault C.Not p e n f = tree-at s e ∙ rw (made_fault T (read_condition (drop own s)) p f)
    first-fault C.And p e n f = tree-at s e ∙ rw (made_fault T (read_condition (drop own s)) p f)
    first-fault C.Or p e n f = tree-at s e ∙ rw (made_fault T (read_condition (drop own s)) p f)
    first-fault C.True p e n f = absurd (omega arith)

    -- one operand
    pub one-judged : (h : ConditionHead) (k : ℕ) (t u : Conditions.Truth) → condition_head_read s ≡ got h own → condition_operands h ≡ 1
        → judged_at own ≡ got t k → map_read T (read_condition s) ≡ got (head_truth cs h t u) (own + k)
    unfolding truth_on
    one-judged (C.Bound v) k t u e n f = absurd (omega arith)
    one-judged (C.Same v w) k t u e n f = absurd (omega arith)
    one-judged (C.IsTerm v a) k t u e n f = absurd (omega arith)
    one-judged (C.Less v w) k t u e n f = absurd (omega arith)
    one-judged C.Not k t u e n f = rw (tree-at s e) (one-made negation Conditions.not_truth (λ c. refl) own k t f)
    one-judged C.And k t u e n f = absurd (omega arith)
    one-judged C.Or k t u e n f = absurd (omega arith)
    one-judged C.True k t u e n f = absurd (omega arith)

    -- a fault of the second operand
    pub second-fault : (h : ConditionHead) (k p : ℕ) (t : Conditions.Truth) → condition_head_read s ≡ got h own → 2 ≤ condition_operands h
        → judged_at own ≡ got t k → judged_at (own + k) ≡ fault p → read_condition s ≡ fault (own + k + p)
    second-fault (C.Bound v) k p t e n f g = absurd (omega arith)
    second-fault (C.Same v w) k p t e n f g = absurd (omega arith)
    second-fault (C.IsTerm v a) k p t e n f g = absurd (omega arith)
    second-fault (C.Less v w) k p t e n f g = absurd (omega arith)
    second-fault C.Not k p t e n f g = absurd (omega arith)
    second-fault C.And k p t e n f g = tree-at s e ∙ second-made conjunction own k p t f g
    second-fault C.Or k p t e n f g = tree-at s e ∙ second-made disjunction own k p t f g
    second-fault C.True k p t e n f g = absurd (omega arith)

    -- two operands
    pub two-judged : (h : ConditionHead) (k m : ℕ) (t u : Conditions.Truth) → condition_head_read s ≡ got h own → 2 ≤ condition_operands h
        → judged_at own ≡ got t k → judged_at (own + k) ≡ got u m → map_read T (read_condition s) ≡ got (head_truth cs h t u) (own + k + m)
    unfolding truth_on
    two-judged (C.Bound v) k m t u e n f g = absurd (omega arith)
    two-judged (C.Same v w) k m t u e n f g = absurd (omega arith)
    two-judged (C.IsTerm v a) k m t u e n f g = absurd (omega arith)
    two-judged (C.Less v w) k m t u e n f g = absurd (omega arith)
    two-judged C.Not k m t u e n f g = absurd (omega arith)
    two-judged C.And k m t u e n f g = rw (tree-at s e) (two_made conjunction Conditions.and_truth (λ c d. refl) own k m t u f g)
    two-judged C.Or k m t u e n f g = rw (tree-at s e) (two_made disjunction Conditions.or_truth (λ c d. refl) own k m t u f g)
    two-judged C.True k m t u e n f g = absurd (omega arith)

-- ---- the answer

module _ {s : List ℕ} {cs : List Cell} where
  pub judges-truth : {t : Truth} {n : ℕ} (u : Conditions.Truth) → truth_in t ≡ u → map_read (truth_on cs) (read_condition s) ≡ got u n
      → Judges s cs (Ok (t, n))
  judges-truth {n = n} u e d = record { found = ap (λ x. got x n) e ∙ sym d }

  pub judges-fault : {f : Fault} {p : ℕ} → f.0 ≡ p → read_condition s ≡ fault p → Judges s cs (Err f)
  judges-fault e d = record { found = ap fault e ∙ sym (rw d) }

-- ---- what an answer tells its caller

module _ {s : List ℕ} {cs : List Cell} where
  -- the truth is the condition's
  pub judged-truth : {t : Truth} {n : ℕ} → Judges s cs (Ok (t, n)) → truth_in t ≡ truth_on cs (condition_of s)
  judged-truth {t} {n} j =
      made_by (truth_on cs) (λ r. truth_in t ≡ truth_on cs (found_condition r)) (read_condition s) (truth_in t) n (sym j.found) (λ _ e. sym e)

  -- a condition has no fault
  pub judged-sound : {f : Fault} → ConditionSound s → Judges s cs (Err f) → ⊥
  judged-sound {f} h j = subst IsGot (made_fault (truth_on cs) (read_condition s) f.0 (sym j.found)) h
