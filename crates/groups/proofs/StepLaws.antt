-- From one item to the next: the place that `step` answers goes forward (`next-forward`), and what stands there (`next_place_lem`). Assumes
-- nothing.
use mathlib.Core.Path.{◌≡◌, sym, ap, ◌∙◌}
use mathlib.Core.Bool.{Bool, true, false, cond, ◌||◌}
use mathlib.Core.List.{List}
use Prim.Native.Nat.{ℕ, ◌+◌, ◌<◌}
use native.Mathlib.Omega.{arith}
use lib.Dec.{eqb, leb}
use lib.ListN.{drop, get_or}
use lib.Seq.{drop-drop}
use Rattle.words.specs.Links.{behind_of, closing}
use Rattle.words.proofs.LinkLaws.{closing-forward, closing-behind}
use Rattle.groups.specs.Items.{next_place}
use Rattle.groups.proofs.Fronts.{next_by, next_item, first_word}

module _ (t : List ℕ) (i : ℕ) where
  abbrev chosen : Bool → Bool → Bool → Bool → ℕ
  chosen a b c d = cond a (i + 3) (cond b (i + 7) (cond c (closing t (i + 1)) (cond d (closing t (i + 2)) (i + 1))))

  forward : (a b c d : Bool) → i < chosen a b c d
  forward true b c d = omega arith
  forward false true c d = omega arith
  forward false false true d = omega (arith, closing-forward t (i + 1))
  forward false false false true = omega (arith, closing-forward t (i + 2))
  forward false false false false = omega arith

  pub next-forward : (r : ℕ) → r ≡ next_place t i → i < r
  unfolding next_place
  next-forward r e =
      let w = get_or t i 0 in
      omega (arith, e, forward (leb 256 w || eqb w 84) (eqb w 69) (eqb w 123) (eqb w 70 || (eqb w 79 || eqb w 85)))

  over : (n : ℕ) → drop (i + n) t ≡ drop n (drop i t)
  over n = sym (drop-drop n i t)

  closed : (n : ℕ) → drop (closing t (i + n)) t ≡ behind_of 1 (drop n (drop i t))
  closed n = closing-behind t (i + n) ∙ ap (behind_of 1) (over n)

  stands : (a b c d : Bool)
      → drop (chosen a b c d) t
      ≡ cond a (drop 3 (drop i t))
      (cond b (drop 7 (drop i t))
      (cond c (behind_of 1 (drop 1 (drop i t))) (cond d (behind_of 1 (drop 2 (drop i t))) (drop 1 (drop i t)))))
  stands true b c d = over 3
  stands false true c d = over 7
  stands false false true d = closed 1
  stands false false false true = closed 2
  stands false false false false = over 1

  pub next_place_lem : (r : ℕ) → r ≡ next_place t i → drop r t ≡ next_item (drop i t)
  unfolding next_place
  next_place_lem r e =
      let w = get_or t i 0 in
      ap (λ (n : ℕ). drop n t) e
      ∙ stands (leb 256 w || eqb w 84) (eqb w 69) (eqb w 123) (eqb w 70 || (eqb w 79 || eqb w 85))
      ∙ ap (λ (n : ℕ). next_by n (drop i t)) (sym (first_word t i))
