-- The pass over a group's bounds: it leaves alone what is no ENSURE TRUST (`bounded-over`), and puts four bytes in front for what is
-- (`bound-turn`); the value of a bound's word. Assumes nothing.
use mathlib.Core.Path.{◌≡◌, refl, sym, ap, ◌∙◌, subst}
use mathlib.Core.List.{List, [], ◌∷◌, ◌++◌}
use Prim.Native.Nat.{ℕ, ◌+◌, ◌*◌, ◌≤◌}
use native.Mathlib.Omega.{arith}
use lib.ListN.{length, drop, get_or, length-append}
use borrow.Author.Tests.{lt-ltb, le-ltb}
use Rattle.tsparql.specs.Query.{Node, ensure_trust}
use Rattle.tsparql.specs.Writing.{node_bytes, three_bytes}
use Rattle.grammar.specs.Grammar.{Thousandths, plus, minus}
use Rattle.grammar.specs.Meaning.{Item, a_triple, a_group, an_optional, a_filter, a_projection, a_bound, bounded, value_of}
use Rattle.blocks.specs.Buffers.{Filled, prepended}
use Rattle.blocks.specs.Blocks.{Holds}
use Rattle.blocks.proofs.Holding.{prepends}
use Rattle.words.specs.Words.{thousandths_word}
use Rattle.words.proofs.WordLaws.{word_at}
use Rattle.groups.specs.Passes.{bound_in}
use Rattle.groups.proofs.Fronts.{k_bound, View, at_bound, first_word, view-at, view-over, next_item}
use Rattle.groups.specs.Items.{Walks, item_word}
use Rattle.groups.proofs.Passing.{Made, Turn}

pub bounded-nil : (x : Node) → bounded x [] ≡ x
unfolding bounded
bounded-nil x = refl

-- it leaves all other items alone
pub bounded-over : (y : Node) (x : Item) (is : List Item) → (item_word x ≡ 69 → ⊥) → bounded y is ≡ bounded y (x ∷ is)
unfolding bounded
bounded-over y (a_triple p) is m = refl
bounded-over y (a_group n) is m = refl
bounded-over y (an_optional c n) is m = refl
bounded-over y (a_filter c) is m = refl
bounded-over y (a_projection v) is m = refl
bounded-over y (a_bound l u) is m = absurd (m refl)

-- a pass makes nothing shorter
pub bounded-least : (is : List Item) (x : Node) → length (node_bytes x) ≤ length (node_bytes (bounded x is))
unfolding bounded node_bytes
bounded-least [] x = omega arith
bounded-least (a_triple p ∷ is) x = bounded-least is x
bounded-least (a_group n ∷ is) x = bounded-least is x
bounded-least (an_optional c n ∷ is) x = bounded-least is x
bounded-least (a_filter c ∷ is) x = bounded-least is x
bounded-least (a_projection v ∷ is) x = bounded-least is x
bounded-least (a_bound l u ∷ is) x = let h = bounded-least is (ensure_trust l u x) in omega arith

-- ---- the value of a bound

-- it is the one whose word it is
bound-value : (l : Thousandths) → bound_in (thousandths_word l) ≡ value_of l
bound-value (plus n x) = rw (lt-ltb (2097152 + n) 4194304 (omega arith)) (omega arith)
bound-value (minus n x y) = rw (le-ltb (4194304 + n) 4194304 (omega arith)) (omega arith)

-- ---- a turn

pub bound-turn :
    (t : List ℕ) (from : ℕ) (out out' : Filled) (i j w w' a b : ℕ) → get_or t i 0 ≡ 69 → w ≡ get_or t (i + 3) 0 → w' ≡ get_or t (i + 5) 0
    → a ≡ bound_in w → b ≡ bound_in w' → out' ≡ prepended out from (96 ∷ three_bytes (4096 * a + b))
    → drop j t ≡ next_item (drop i t)
    → Turn Node bounded node_bytes t from out out' i j
unfolding bounded node_bytes
bound-turn t from out out' i j w w' a b c x₁ x₂ lower upper put s all is rest pre y walks start held room =
    go (view-at t i 69 is rest c walks)
  where
    go : View (drop i t) is rest k_bound → Made Node bounded node_bytes t rest all pre (bounded y is) out' j
    go (at_bound l u ts later e q f) =
        let ea = lower ∙ ap bound_in (x₁ ∙ word_at t _ i 3 e) ∙ bound-value l in
        let eb = upper ∙ ap bound_in (x₂ ∙ word_at t _ i 5 e) ∙ bound-value u in
        let size = held.size in
        let least = bounded-least later (ensure_trust (value_of l) (value_of u) y) in
        let fits = ap (λ (js : List Item). length (node_bytes (bounded y js))) q in
        let front = prepends pre (node_bytes y) (sym start) held _ put (omega (arith, length-append pre (node_bytes y))) in
        record {
          later = later;
          now = ensure_trust (value_of l) (value_of u) y;
          walks = subst (λ (l : List ℕ). Walks l later rest) (sym s)
              (view-over (at_bound l u ts later e q f) (λ z. omega (arith, first_word t i)));
          makes = sym (ap (λ (js : List Item). bounded y js) q);
          holds = subst (λ (x : ℕ). Holds out' (pre ++ (96 ∷ (three_bytes x ++ node_bytes y))) all)
              (ap (λ (x : ℕ). 4096 * x + b) ea ∙ ap (λ (x : ℕ). 4096 * value_of l + x) eb) front;
        }
