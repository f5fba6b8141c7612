-- Any pass over a group's items, of which f x is is what it makes of x: what it has made at a place (`Made`, `Making`), how it goes on over
-- an item that it uses (`making-on`), and over items that it leaves alone to the next one (`making-at`) or to the end (`making-end`).
-- Assumes nothing.
use mathlib.Core.Path.{◌≡◌, refl, sym, ap, ◌∙◌, subst}
use mathlib.Core.Bool.{true}
use mathlib.Core.List.{List, [], ◌∷◌, ◌++◌}
use Prim.Native.Nat.{ℕ, ◌+◌, ◌≤◌}
use native.Mathlib.Omega.{arith}
use lib.ListN.{length, drop}
use Rattle.grammar.specs.Tokens.{Token}
use Rattle.grammar.specs.Grammar.{Body}
use Rattle.grammar.specs.Meaning.{Item, items}
use Rattle.blocks.specs.Buffers.{Filled}
use Rattle.blocks.specs.Blocks.{Holds}
use Rattle.groups.proofs.Fronts.{items-walks, body-items}
use Rattle.groups.specs.Items.{Walks, item_word, Skips, skips_none, skips_one, Seeks}
use Rattle.groups.specs.Passes.{BodyAt, Makes}
use Rattle.std.proofs.Common.{Some, None}

-- y has become `now` by the items before the place i, and will be z
pub record Made
    (S : Type 0) (f : S → List Item → S) (bytes : S → List ℕ) (t : List ℕ) (rest : List Token) (all : ℕ) (pre : List ℕ) (z : S)
    (out : Filled) (i : ℕ) : Type 0 where
  pub later : List Item
  pub now : S
  pub walks : Walks (drop i t) later rest
  pub makes : f now later ≡ z
  pub holds : Holds out (pre ++ bytes now) all

-- so it is whatever body stands at the place at which the pass began
pub record Making
    (S : Type 0) (f : S → List Item → S) (bytes : S → List ℕ) (t : List ℕ) (at from : ℕ) (out₀ out : Filled) (i : ℕ) : Type 0 where
  pub stands :
      (all : ℕ) (b : Body true) (rest : List Token) (pre : List ℕ) (x : S) → BodyAt t at b rest → from ≡ length pre → Holds out₀ (pre ++ bytes x) all
      → length pre + length (bytes (f x (items b))) ≤ all → Made S f bytes t rest all pre (f x (items b)) out i

-- one turn of the loop, from i to j
abbrev pub Turn :
    (S : Type 0) → (S → List Item → S) → (S → List ℕ) → List ℕ → ℕ → Filled → Filled → ℕ → ℕ → Type 0
Turn S f bytes t from out out' i j =
    (all : ℕ) (is : List Item) (rest : List Token) (pre : List ℕ) (y : S) → Walks (drop i t) is rest → from ≡ length pre
    → Holds out (pre ++ bytes y) all → length pre + length (bytes (f y is)) ≤ all → Made S f bytes t rest all pre (f y is) out' j

module _ (S : Type 0) (f : S → List Item → S) (bytes : S → List ℕ) (t : List ℕ) (at from : ℕ) (out₀ : Filled) where
  pub making-first : Making S f bytes t at from out₀ out₀ at
  making-first =
      record {
        stands =
            λ all b rest pre x w e h r.
            record { later = items b; now = x; walks = items-walks (body-items t at b rest w); makes = refl; holds = h };
      }

  pub making-on :
      (out out' : Filled) (i j : ℕ) → Turn S f bytes t from out out' i j
      → Making S f bytes t at from out₀ out i → Making S f bytes t at from out₀ out' j
  making-on out out' i j turn m =
      record {
        stands =
            λ all b rest pre x w e h room.
            (let d = m.stands all b rest pre x w e h room in
            let fits : length pre + length (bytes (f d.now d.later)) ≤ all =
            omega (arith, ap (λ (y : S). length (bytes y)) d.makes) in
            let c = turn all d.later rest pre d.now d.walks e d.holds fits in
            record { later = c.later; now = c.now; walks = c.walks; makes = c.makes ∙ d.makes; holds = c.holds });
      }

  -- items that begin with other words than w are left alone
  module _ (w : ℕ) (over : (y : S) (x : Item) (is : List Item) → (item_word x ≡ w → ⊥) → f y is ≡ f y (x ∷ is)) where
    skipped : (y : S) {later is : List Item} → Skips w later is → f y later ≡ f y is
    skipped y skips_none = refl
    skipped y (skips_one x is other more) = skipped y more ∙ over y x is other

    pub making-at :
        (out : Filled) (i j : ℕ) → Seeks w t i (Some j) → Making S f bytes t at from out₀ out i → Making S f bytes t at from out₀ out j
    making-at out i j seeks m =
        record {
          stands =
              λ all b rest pre x begins e h r.
              (let d = m.stands all b rest pre x begins e h r in
              let s = seeks.3 d.later rest d.walks in
              record { later = s.0; now = d.now; walks = s.1; makes = skipped d.now s.2 ∙ d.makes; holds = d.holds });
        }

    pub making-end :
        (out : Filled) (i : ℕ) → ((x : S) → f x [] ≡ x) → Seeks w t i None → Making S f bytes t at from out₀ out i
        → Makes S f bytes t at from out₀ out
    making-end out i nil seeks m all b rest pre x begins e h room =
        let d = m.stands all b rest pre x begins e h room in
        let done : d.now ≡ f x (items b) = sym (nil d.now) ∙ skipped d.now (seeks d.later rest d.walks) ∙ d.makes in
        subst (λ (y : S). Holds out (pre ++ bytes y) all) done d.holds
