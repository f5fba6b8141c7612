-- THE REWRITING THEOREM: what push does to the rows of a node, to its space and to its pairs, for any rows of the pattern sets whose
-- known trusts are at most 1000, every bound and every node. `rows-push`, `space-push-≤`, `pairs-push-≤`. Assumes nothing.
use mathlib.Core.Path.{◌≡◌, refl, sym, ap, ◌∙◌}
use mathlib.Core.Bool.{Bool, true, false, cond}
use mathlib.Core.List.{List}
use Prim.Native.Nat.{ℕ, ◌≤◌}
use native.Mathlib.Nat.{le_refl, mul-le-mul}
use native.Mathlib.Omega.{arith}
use borrow.Author.Tests.{ltb-false}
use lib.Dec.{ltb}
use Rattle.tsparql.specs.Lists.{keep_if}
use Rattle.tsparql.specs.Values.{Row, with_trust, trust_inside}
use Rattle.tsparql.specs.Query.{Pattern, Condition, Node, pattern_set, join, left_join, union, filter, project_trust, ensure_trust}
use Rattle.tsparql.specs.Conditions.{true_on}
use Rattle.tsparql.specs.Rows.{merges, join_rows, left_row, rows_of, count_of, space_of, pairs_of}
use Rattle.tsparql.specs.Push.{TrustBound, no_bound, between, meet, trust_floor, wrap, wrap_below, push}
use Rattle.tsparql.proofs.ListLaws.{every_append, every-keep_if, every_map, length-keep_if, length-concat_map-keep_if}
use Rattle.tsparql.proofs.RowLaws.{SoundRow, SoundRows, keep, join_rows-sound, left_join_rows-sound, join_rows-keep, left_join_rows-keep}
use Rattle.tsparql.proofs.RowLaws.{keep_if-floor, keep_if-high, keep-meet, keep_append, keep-keep_if, keep-project, length-keep}

-- ---- a figure that passes over ensure trust nodes passes over the wrapping too

module _ {X : Type 0} (f : Node → X) (pass : (l u : ℕ) (q : Node) → f (ensure_trust l u q) ≡ f q) where
  pub wrap-pass : (b : TrustBound) (q : Node) → f (wrap b q) ≡ f q
  wrap-pass no_bound q = refl
  wrap-pass (between l u) q = pass l u q

  pub wrap_below-pass : (b : TrustBound) (q : Node) → f (wrap_below b q) ≡ f q
  wrap_below-pass no_bound q = refl
  wrap_below-pass (between l u) q = go (ltb u 2000)
    where
      go : (t : Bool) → f (cond t (ensure_trust l u q) q) ≡ f q
      go true = pass l u q
      go false = refl

module _ (base : List Pattern → List Row) (sound : (ps : List Pattern) → SoundRows (base ps)) where
  -- every row of a node is sound
  pub rows-sound : (q : Node) → SoundRows (rows_of base q)
  unfolding rows_of
  rows-sound (pattern_set ps) = sound ps
  rows-sound (join x y) = join_rows-sound (rows_of base x) (rows_of base y) (rows-sound x) (rows-sound y)
  rows-sound (left_join c x y) = left_join_rows-sound c (rows_of base x) (rows_of base y) (rows-sound x) (rows-sound y)
  rows-sound (union x y) = every_append SoundRow (rows_of base x) (rows_of base y) (rows-sound x) (rows-sound y)
  rows-sound (filter c x) = every-keep_if SoundRow (true_on c) (rows_of base x) (rows-sound x)
  rows-sound (project_trust v x) = every_map SoundRow (with_trust v) (rows_of base x) (rows-sound x)
  rows-sound (ensure_trust l u x) = every-keep_if SoundRow (trust_inside l u) (rows_of base x) (rows-sound x)

  -- ---- the rows

  rows-wrap : (b : TrustBound) (q : Node) → rows_of base (wrap b q) ≡ keep b (rows_of base q)
  unfolding rows_of
  rows-wrap no_bound q = refl
  rows-wrap (between l u) q = refl

  -- a node with the rows that (l, 1000) keeps, wrapped if u is below 1000, has those that (l, u) keeps
  rows-wrap_below : (l u : ℕ) (q : Node) (rs : List Row) → SoundRows rs → rows_of base q ≡ keep_if (trust_inside l 2000) rs
      → rows_of base (wrap_below (between l u) q) ≡ keep_if (trust_inside l u) rs
  unfolding rows_of
  rows-wrap_below l u q rs e d = go (ltb u 2000) refl
    where
      go : (t : Bool) → ltb u 2000 ≡ t → rows_of base (cond t (ensure_trust l u q) q) ≡ keep_if (trust_inside l u) rs
      go true f = ap (keep_if (trust_inside l u)) d ∙ keep_if-floor l u rs e
      go false f = d ∙ keep_if-high l u (ltb-false u 2000 f) rs e

  -- the rows of a push are the rows that the bound keeps, in order
  pub rows-push : (b : TrustBound) (q : Node) → rows_of base (push b q) ≡ keep b (rows_of base q)
  unfolding rows_of push
  rows-push b (pattern_set ps) = rows-wrap b (pattern_set ps)
  rows-push no_bound (join x y) = rw (rows-push no_bound x, rows-push no_bound y)
  rows-push (between l u) (join x y) =
      rows-wrap_below l u (join (push (between l 2000) x) (push (between l 2000) y)) (join_rows (rows_of base x) (rows_of base y))
      (rows-sound (join x y))
      (rw (rows-push (between l 2000) x, rows-push (between l 2000) y)
      (join_rows-keep l (rows_of base x) (rows_of base y) (rows-sound x) (rows-sound y)))
  rows-push no_bound (left_join c x y) = rw (rows-push no_bound x, rows-push no_bound y)
  rows-push (between l u) (left_join c x y) =
      rw (rows-push (between l 2000) x, rows-push no_bound y)
      (left_join_rows-keep l u c (rows_of base x) (rows_of base y) (rows-sound x) (rows-sound y))
  rows-push b (union x y) = rw (rows-push b x, rows-push b y) (sym (keep_append b (rows_of base x) (rows_of base y)))
  rows-push b (filter c x) = rw (rows-push b x) (keep-keep_if b (true_on c) (rows_of base x))
  rows-push b (project_trust v x) = rw (rows-push b x) (keep-project b v (rows_of base x))
  rows-push b (ensure_trust m w x) = rows-push (meet b m w) x ∙ keep-meet b m w (rows_of base x)

  -- ---- how many rows

  count-push-≤ : (b : TrustBound) (q : Node) → count_of base (push b q) ≤ count_of base q
  count-push-≤ b q = rw (rows-push b q) (length-keep b (rows_of base q))

  count-join-≤ : (b : TrustBound) (x y : Node)
      → count_of base (join (push (trust_floor b) x) (push (trust_floor b) y)) ≤ count_of base (join x y)
  unfolding rows_of
  count-join-≤ no_bound x y = rw (rows-push no_bound x, rows-push no_bound y) (le_refl (count_of base (join x y)))
  count-join-≤ (between l u) x y =
      rw (
        rows-push (between l 2000) x,
        rows-push (between l 2000) y,
        join_rows-keep l (rows_of base x) (rows_of base y) (rows-sound x) (rows-sound y),
      )
      (length-keep_if (trust_inside l 2000) (join_rows (rows_of base x) (rows_of base y)))

  count-left_join-≤ : (b : TrustBound) (c : Condition) (x y : Node)
      → count_of base (left_join c (push (trust_floor b) x) (push no_bound y)) ≤ count_of base (left_join c x y)
  unfolding rows_of
  count-left_join-≤ no_bound c x y = rw (rows-push no_bound x, rows-push no_bound y) (le_refl (count_of base (left_join c x y)))
  count-left_join-≤ (between l u) c x y =
      rw (rows-push (between l 2000) x, rows-push no_bound y)
      (length-concat_map-keep_if (λ z. left_row c z (merges z (rows_of base y))) (trust_inside l 2000) (rows_of base x))

  -- ---- space and pairs

  -- a push needs no more space
  pub space-push-≤ : (b : TrustBound) (q : Node) → space_of base (push b q) ≤ space_of base q
  unfolding space_of push
  space-push-≤ b (pattern_set ps) =
      rw (wrap-pass (space_of base) (λ l u x. refl) b (pattern_set ps)) (le_refl (space_of base (pattern_set ps)))
  space-push-≤ b (join x y) =
      rw (wrap_below-pass (space_of base) (λ l u x. refl) b (join (push (trust_floor b) x) (push (trust_floor b) y)))
      (omega (
        arith,
        space-push-≤ (trust_floor b) x,
        space-push-≤ (trust_floor b) y,
        count-push-≤ (trust_floor b) x,
        count-push-≤ (trust_floor b) y,
        count-join-≤ b x y,
      ))
  space-push-≤ b (left_join c x y) =
      rw (wrap-pass (space_of base) (λ l u x. refl) b (left_join c (push (trust_floor b) x) (push no_bound y)))
      (omega (
        arith,
        space-push-≤ (trust_floor b) x,
        space-push-≤ no_bound y,
        count-push-≤ (trust_floor b) x,
        count-push-≤ no_bound y,
        count-left_join-≤ b c x y,
      ))
  space-push-≤ b (union x y) = omega (arith, space-push-≤ b x, space-push-≤ b y, count-push-≤ b x)
  space-push-≤ b (filter c x) = space-push-≤ b x
  space-push-≤ b (project_trust v x) = space-push-≤ b x
  space-push-≤ b (ensure_trust m w x) = space-push-≤ (meet b m w) x

  -- a push has no more pairs
  pub pairs-push-≤ : (b : TrustBound) (q : Node) → pairs_of base (push b q) ≤ pairs_of base q
  unfolding pairs_of push
  pairs-push-≤ b (pattern_set ps) =
      rw (wrap-pass (pairs_of base) (λ l u x. refl) b (pattern_set ps)) (le_refl (pairs_of base (pattern_set ps)))
  pairs-push-≤ b (join x y) =
      rw (wrap_below-pass (pairs_of base) (λ l u x. refl) b (join (push (trust_floor b) x) (push (trust_floor b) y)))
      (omega (
        arith,
        pairs-push-≤ (trust_floor b) x,
        pairs-push-≤ (trust_floor b) y,
        mul-le-mul (count-push-≤ (trust_floor b) x) (count-push-≤ (trust_floor b) y),
      ))
  pairs-push-≤ b (left_join c x y) =
      rw (wrap-pass (pairs_of base) (λ l u x. refl) b (left_join c (push (trust_floor b) x) (push no_bound y)))
      (omega (
        arith,
        pairs-push-≤ (trust_floor b) x,
        pairs-push-≤ no_bound y,
        mul-le-mul (count-push-≤ (trust_floor b) x) (count-push-≤ no_bound y),
      ))
  pairs-push-≤ b (union x y) = omega (arith, pairs-push-≤ b x, pairs-push-≤ b y)
  pairs-push-≤ b (filter c x) = pairs-push-≤ b x
  pairs-push-≤ b (project_trust v x) = pairs-push-≤ b x
  pairs-push-≤ b (ensure_trust m w x) = pairs-push-≤ (meet b m w) x
