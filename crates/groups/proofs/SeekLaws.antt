-- The next item that begins with a word: the loop of `find_item`, whose invariant is that it has gone over others alone (`Seeking`), and its
-- ends (`seeking-..`). Assumes nothing.
use mathlib.Core.Path.{◌≡◌, refl, sym, ◌∙◌, subst}
use mathlib.Core.List.{List, [], ◌∷◌}
use Prim.Native.Nat.{ℕ, ◌≤◌, ◌<◌}
use native.Mathlib.Omega.{arith}
use native.Mathlib.Nat.{le_refl}
use lib.ListN.{length, drop, get_or}
use Rattle.std.proofs.Common.{None}
use Rattle.grammar.specs.Tokens.{Token}
use Rattle.grammar.specs.Meaning.{Item}
use Rattle.words.proofs.WordLaws.{word_first}
use Rattle.groups.specs.Items.{next_place, Walks, item_word, Skips, skips_none, skips_one, Seeks}
use Rattle.groups.proofs.Fronts.{Kind, k_end, View, left}
use Rattle.groups.proofs.Fronts.{at_end, at_dot, at_union, at_triple, at_group, at_optional, at_filter, at_projection, at_bound}
use Rattle.groups.proofs.Fronts.{first_word, view-at, view-inside, view-over}
use Rattle.groups.proofs.StepLaws.{next_place_lem, next-forward}

skips-on : (w : ℕ) {js ks is : List Item} → Skips w js is → Skips w ks js → Skips w ks is
skips-on w skips_none more = more
skips-on w (skips_one x is other rest) more = skips_one x is other (skips-on w rest more)

-- an item more
skips-item : (w : ℕ) (x : Item) (later is : List Item) → is ≡ x ∷ later → (item_word x ≡ w → ⊥) → Skips w later is
skips-item w x later is q m = subst (λ (js : List Item). Skips w later js) (sym q) (skips_one x later m skips_none)

-- what stands at i begins with another word
module _ (w : ℕ) (h : w < 256) (t : List ℕ) (i : ℕ) where
  other :
      (x : Item) (is later : List Item) (ws : List ℕ) → drop i t ≡ item_word x ∷ ws → is ≡ x ∷ later → (get_or t i 0 ≡ w → ⊥)
      → Skips w later is
  other x is later ws e q m = skips-item w x later is q (λ z. m (word_first t ws i _ e ∙ z))

  skips-front :
      (get_or t i 0 ≡ 125 → ⊥) → (get_or t i 0 ≡ w → ⊥) → (is : List Item) (rest : List Token) (κ : Kind) (v : View (drop i t) is rest κ)
      → Skips w (left v) is
  skips-front n m is rest κ (at_end e q) = absurd (n (word_first t _ i _ e))
  skips-front n m is rest κ (at_dot ts e g) = skips_none
  skips-front n m is rest κ (at_union b us ts e g) = skips_none
  skips-front n m is rest κ (at_triple a b c ts later e q g) = skips-item w _ later is q (λ z. omega arith)
  skips-front n m is rest κ (at_group b us ts later e q g) = other _ is later _ e q m
  skips-front n m is rest κ (at_optional b ts later e q g) = other _ is later _ e q m
  skips-front n m is rest κ (at_filter d ts later e q g) = other _ is later _ e q m
  skips-front n m is rest κ (at_projection v ts later e q g) = other _ is later _ e q m
  skips-front n m is rest κ (at_bound l u ts later e q g) = other _ is later _ e q m

-- ---- the loop

-- from `at` to i no item begins with w
pub record Seeking (w : ℕ) (t : List ℕ) (at i : ℕ) : Type 0 where
  pub forward : at ≤ i
  pub stands :
      (is : List Item) (rest : List Token) → Walks (drop at t) is rest → (later : List Item) × Walks (drop i t) later rest × Skips w later is

pub seeking-first : (w : ℕ) (t : List ℕ) (at : ℕ) → Seeking w t at at
seeking-first w t at = record { forward = le_refl at; stands = λ is rest walks. (is, walks, skips_none) }

module _ (w : ℕ) (t : List ℕ) (at i : ℕ) (k : Seeking w t at i) where
  pub seeking-on :
      (r : ℕ) → w < 256 → (get_or t i 0 ≡ 125 → ⊥) → (get_or t i 0 ≡ w → ⊥) → r ≡ next_place t i → Seeking w t at r
  seeking-on r h n m e =
      let forward = k.forward in
      let more = next-forward t i r e in
      record {
        forward = omega arith;
        stands =
            λ is rest walks.
            (let s = k.stands is rest walks in
            let v = view-at t i (get_or t i 0) s.0 rest refl s.1 in (
              left v,
              subst (λ (l : List ℕ). Walks l (left v) rest) (sym (next_place_lem t i r e)) (view-over v (λ q. n (sym (first_word t i) ∙ q))),
              skips-on w s.2 (skips-front w h t i n m s.0 rest _ v),
            ));
      }

  -- the group ends
  pub seeking-end : get_or t i 0 ≡ 125 → Seeks w t at None
  seeking-end e is rest walks =
      let s = k.stands is rest walks in
      go s (view-at t i 125 s.0 rest e s.1)
    where
      go : (s : (later : List Item) × Walks (drop i t) later rest × Skips w later is) → View (drop i t) s.0 rest k_end → Skips w [] is
      go s (at_end p q) = subst (λ (later : List Item). Skips w later is) q s.2

  -- it ends before the words do
  pub seeking-none : length t ≤ i → Seeks w t at None
  seeking-none l is rest walks =
      let s = k.stands is rest walks in
      absurd (omega (arith, view-inside t i s.0 rest s.1))
