-- The pass over a group's filters: it leaves alone what is no FILTER (`filters-over`), writes the condition of the first one
-- (`filter-first`), and joins that of a further one by and (`filter_more`). Assumes nothing.
use mathlib.Core.Path.{◌≡◌, refl, sym, ap, subst}
use mathlib.Core.List.{List, [], ◌∷◌, ◌++◌, append_assoc, append-nil}
use mathlib.Core.Option.{Option, none, some}
use Prim.Native.Nat.{ℕ, ◌+◌, ◌≤◌, ◌<◌}
use native.Mathlib.Omega.{arith}
use lib.ListN.{length, drop, get_or, length-append}
use Rattle.tsparql.specs.Query as Q
use Rattle.tsparql.specs.Query.{Condition}
use Rattle.tsparql.specs.Writing.{condition_bytes}
use Rattle.grammar.specs.Grammar as Gr
use Rattle.grammar.specs.Meaning.{Item, a_triple, a_group, an_optional, a_filter, a_projection, a_bound, filters, conjoined, disjunction_of}
use Rattle.blocks.specs.Buffers.{Filled}
use Rattle.blocks.specs.Blocks.{Holds, Puts}
use Rattle.words.proofs.WordLaws.{words-on}
use Rattle.clauses.specs.Clauses.{Conditions}
use Rattle.groups.specs.Passes.{conjoin_filters, some_bytes}
use Rattle.groups.proofs.Fronts.{k_filter, View, at_filter, view-at}
use Rattle.groups.specs.Items.{item_word}
use Rattle.groups.proofs.Passing.{Made, Turn}

pub filters-nil : (o : Option Condition) → conjoin_filters o [] ≡ o
unfolding filters conjoined
filters-nil none = refl
filters-nil (some c) = refl

-- it leaves all other items alone
pub filters-over :
    (o : Option Condition) (x : Item) (is : List Item) → (item_word x ≡ 70 → ⊥) → conjoin_filters o is ≡ conjoin_filters o (x ∷ is)
unfolding filters
filters-over o (a_triple p) is m = refl
filters-over o (a_group n) is m = refl
filters-over o (an_optional c n) is m = refl
filters-over o (a_filter c) is m = absurd (m refl)
filters-over o (a_projection v) is m = refl
filters-over o (a_bound l u) is m = refl

-- a pass makes nothing shorter
conjoined-least : (cs : List Condition) (c : Condition) → length (condition_bytes c) ≤ length (condition_bytes (conjoined c cs))
unfolding conjoined condition_bytes
conjoined-least [] c = omega arith
conjoined-least (d ∷ cs) c =
    let h = conjoined-least cs (Q.conjunction c d) in
    omega (arith, length-append (condition_bytes c) (condition_bytes d))

pub condition-large : (c : Condition) → 1 ≤ length (condition_bytes c)
unfolding condition_bytes
condition-large (Q.bound v) = omega arith
condition-large (Q.same v w) = omega arith
condition-large (Q.is_term v a) = omega arith
condition-large (Q.less v w) = omega arith
condition-large (Q.negation c) = omega arith
condition-large (Q.conjunction c d) = omega arith
condition-large (Q.disjunction c d) = omega arith
condition-large Q.always = omega arith

-- ---- the turns

pub filter-first :
    (t : List ℕ) (from : ℕ) (out out' : Filled) (i next : ℕ) → get_or t i 0 ≡ 70 → out.end ≤ from → Conditions t (i + 2) out out' next
    → Turn (Option Condition) conjoin_filters some_bytes t from out out' i next
unfolding filters
filter-first t from out out' i next c o writes all is rest pre (some x) walks start held room =
    let size = held.size in absurd (omega (arith, length-append pre (condition_bytes x), condition-large x))
filter-first t from out out' i next c o writes all is rest pre none walks start held room = go (view-at t i 70 is rest c walks)
  where
    go : View (drop i t) is rest k_filter
        → Made (Option Condition) conjoin_filters some_bytes t rest all pre (conjoin_filters none is) out' next
    go (at_filter d ts later e q f) =
        let size = held.size in
        let least = conjoined-least (filters later) (disjunction_of d) in
        let fits = ap (λ (js : List Item). length (some_bytes (conjoin_filters none js))) q in
        let w = writes all d ts (pre ++ []) (words-on t _ i 2 e) held (omega (arith, length-append pre [])) in
        record {
          later = later;
          now = some (disjunction_of d);
          walks = record { unions = Gr.none; tail = ts; written = w.0; follows = f };
          makes = sym (ap (λ (js : List Item). conjoin_filters none js) q);
          holds = subst (λ (x : List ℕ). Holds out' (x ++ condition_bytes (disjunction_of d)) all) (append-nil pre) w.1;
        }

pub filter_more :
    (t : List ℕ) (from : ℕ) (out out₁ out' : Filled) (i next : ℕ) → get_or t i 0 ≡ 70 → from < out.end
    → Conditions t (i + 2) out out₁ next → Puts out₁ out' from 80
    → Turn (Option Condition) conjoin_filters some_bytes t from out out' i next
unfolding filters conjoined condition_bytes
filter_more t from out out₁ out' i next c o writes put all is rest pre none walks start held room =
    let size = held.size in absurd (omega (arith, length-append pre []))
filter_more t from out out₁ out' i next c o writes put all is rest pre (some x) walks start held room =
    go (view-at t i 70 is rest c walks)
  where
    go : View (drop i t) is rest k_filter
        → Made (Option Condition) conjoin_filters some_bytes t rest all pre (conjoin_filters (some x) is) out' next
    go (at_filter d ts later e q f) =
        let size = held.size in
        let D = condition_bytes (disjunction_of d) in
        let X = condition_bytes x in
        let least = conjoined-least (filters later) (Q.conjunction x (disjunction_of d)) in
        let fits = ap (λ (js : List Item). length (some_bytes (conjoin_filters (some x) js))) q in
        let w = writes all d ts (pre ++ X) (words-on t _ i 2 e) held (omega (arith, length-append pre X, length-append X D)) in
        let size' = w.1.size in
        let front = put all pre (X ++ D) (sym start) (subst (λ (l : List ℕ). Holds out₁ l all) (append_assoc pre X D) w.1)
        (omega (arith, length-append pre X, length-append X D, length-append (pre ++ X) D)) in
        record {
          later = later;
          now = some (Q.conjunction x (disjunction_of d));
          walks = record { unions = Gr.none; tail = ts; written = w.0; follows = f };
          makes = sym (ap (λ (js : List Item). conjoin_filters (some x) js) q);
          holds = front;
        }
