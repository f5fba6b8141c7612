-- The pass over a group's projections: it leaves alone what is no TRUST AS (`projected-over`), and puts a byte in front for what is
-- (`projection-turn`). Assumes nothing.
use mathlib.Core.Path.{◌≡◌, refl, sym, ap, subst}
use mathlib.Core.List.{List, [], ◌∷◌, ◌++◌}
use Prim.Native.Nat.{ℕ, ◌+◌, ◌%◌, ◌≤◌}
use native.Mathlib.Omega.{arith}
use lib.ListN.{length, drop, get_or, length-append}
use Rattle.tsparql.specs.Query.{Node, project_trust}
use Rattle.tsparql.specs.Writing.{node_bytes}
use Rattle.grammar.specs.Meaning.{Item, a_triple, a_group, an_optional, a_filter, a_projection, a_bound, projected}
use Rattle.blocks.specs.Buffers.{Filled}
use Rattle.blocks.specs.Blocks.{Holds, Puts}
use Rattle.words.proofs.WordLaws.{word_at}
use Rattle.groups.proofs.Fronts.{k_projection, View, at_projection, first_word, view-at, view-over, next_item}
use Rattle.groups.specs.Items.{Walks, item_word}
use Rattle.groups.proofs.Passing.{Made, Turn}

pub projected-nil : (x : Node) → projected x [] ≡ x
unfolding projected
projected-nil x = refl

-- it leaves all other items alone
pub projected-over : (y : Node) (x : Item) (is : List Item) → (item_word x ≡ 84 → ⊥) → projected y is ≡ projected y (x ∷ is)
unfolding projected
projected-over y (a_triple p) is m = refl
projected-over y (a_group n) is m = refl
projected-over y (an_optional c n) is m = refl
projected-over y (a_filter c) is m = refl
projected-over y (a_projection v) is m = absurd (m refl)
projected-over y (a_bound l u) is m = refl

-- a pass makes nothing shorter
pub projected-least : (is : List Item) (x : Node) → length (node_bytes x) ≤ length (node_bytes (projected x is))
unfolding projected node_bytes
projected-least [] x = omega arith
projected-least (a_triple p ∷ is) x = projected-least is x
projected-least (a_group n ∷ is) x = projected-least is x
projected-least (an_optional c n ∷ is) x = projected-least is x
projected-least (a_filter c ∷ is) x = projected-least is x
projected-least (a_projection v ∷ is) x = let h = projected-least is (project_trust v x) in omega arith
projected-least (a_bound l u ∷ is) x = projected-least is x

pub projection-turn :
    (t : List ℕ) (from : ℕ) (out out' : Filled) (i j w : ℕ) → get_or t i 0 ≡ 84 → w ≡ get_or t (i + 2) 0
    → Puts out out' from (80 + w % 16) → drop j t ≡ next_item (drop i t) → Turn Node projected node_bytes t from out out' i j
unfolding projected node_bytes
projection-turn t from out out' i j w c a put s all is rest pre y walks start held room = go (view-at t i 84 is rest c walks)
  where
    go : View (drop i t) is rest k_projection → Made Node projected node_bytes t rest all pre (projected y is) out' j
    go (at_projection v ts later e q f) =
        let small = v.small in
        let byte : 80 + w % 16 ≡ 80 + v.name = omega (arith, word_at t _ i 2 e) in
        let size = held.size in
        let least = projected-least later (project_trust v.name y) in
        let fits = ap (λ (js : List Item). length (node_bytes (projected y js))) q in
        let front = put all pre (node_bytes y) (sym start) held (omega (arith, length-append pre (node_bytes y))) in
        record {
          later = later;
          now = project_trust v.name y;
          walks = subst (λ (l : List ℕ). Walks l later rest) (sym s)
              (view-over (at_projection v ts later e q f) (λ z. omega (arith, first_word t i)));
          makes = sym (ap (λ (js : List Item). projected y js) q);
          holds = subst (λ (x : ℕ). Holds out' (pre ++ (x ∷ node_bytes y)) all) byte front;
        }
