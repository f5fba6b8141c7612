-- A stage goes on over a filter, projection, bound or dot, which join nothing (`pass-other`). Assumes nothing.
use mathlib.Core.Path.{◌≡◌, refl, sym, ap, ◌∙◌, subst}
use mathlib.Core.List.{List, ◌∷◌}
use mathlib.Core.Option.{none}
use Prim.Native.Nat.{ℕ, ◌+◌, ◌<◌}
use native.Mathlib.Omega.{arith}
use lib.ListN.{drop, get_or, length-drop}
use Rattle.std.proofs.Common.{Some, None}
use Rattle.tsparql.specs.Query.{Node, Pattern, pattern_set}
use Rattle.tsparql.specs.Writing.{node_bytes}
use Rattle.grammar.specs.Tokens.{Token}
use Rattle.grammar.specs.Meaning.{Item, joined, gathered}
use Rattle.words.specs.Words.{words}
use Rattle.words.proofs.Balance.{slot-large, behind-condition}
use Rattle.groups.specs.Items.{Follows, Items, next_place}
use Rattle.groups.proofs.Fronts.{Kind, View, items-walks, first_word, view-at, next_item}
use Rattle.groups.proofs.StepLaws.{next-forward, next_place_lem}
use Rattle.groups.proofs.Fronts.{at_end, at_dot, at_union, at_triple, at_group, at_optional, at_filter, at_projection, at_bound}
use Rattle.blocks.specs.Buffers.{Filled}
use Rattle.parser.specs.Stages.{body_place, Passes}
use Rattle.parser.specs.declared.Stage.{Stage}
use Rattle.parser.proofs.StageLaws.{none-waits, stage-inside, stage-items, stage-holds}

-- ---- what joins nothing

-- the words behind it, whose items give the same
record Over (ws : List ℕ) (rest : List Token) (x : Node) (run : List Pattern) (is : List Item) : Type 0 where
  later : List Item
  items : Items (next_item ws) later rest
  yields : gathered x run later ≡ gathered x run is

-- a first word that begins no group and no triple, and does not end the group
record Plain (w : ℕ) : Type 0 where
  small : w < 256
  not_end : w ≡ 125 → ⊥
  no_group : w ≡ 123 → ⊥
  no_optional : w ≡ 79 → ⊥
  no_union : w ≡ 85 → ⊥

module _ (ws : List ℕ) (is : List Item) (rest : List Token) (x : Node) (run : List Pattern) where
  over-item : (ts : List Token) (later : List Item) (i : Item) → next_item ws ≡ words ts → is ≡ i ∷ later
      → gathered x run later ≡ gathered x run (i ∷ later) → Follows ts later rest → Over ws rest x run is
  over-item ts later i n q y f =
      record {
        later = later;
        items = record { tail = ts; written = n; follows = f };
        yields = y ∙ sym (ap (λ (js : List Item). gathered x run js) q);
      }

  first : (w : ℕ) (us : List ℕ) → ws ≡ w ∷ us → get_or ws 0 0 ≡ w
  first w us e = ap (λ (l : List ℕ). get_or l 0 0) e

  over : {κ : Kind} → Plain (get_or ws 0 0) → View ws is rest κ → Over ws rest x run is
  unfolding gathered
  over p (at_dot ts e f) = record { later = is; items = record { tail = ts; written = ap next_item e; follows = f }; yields = refl }
  over p (at_filter d ts later e q f) = over-item ts later _ (ap next_item e ∙ behind-condition d ts) q refl f
  over p (at_projection v ts later e q f) = over-item ts later _ (ap next_item e) q refl f
  over p (at_bound l u ts later e q f) = over-item ts later _ (ap next_item e) q refl f
  over p (at_end e q) = absurd (p.not_end (first _ _ e))
  over p (at_union g us ts e f) = absurd (p.no_union (first _ _ e))
  over p (at_triple a b c ts later e q f) = let small = p.small in absurd (omega (arith, slot-large a, first _ _ e))
  over p (at_group g us ts later e q f) = absurd (p.no_group (first _ _ e))
  over p (at_optional g ts later e q f) = absurd (p.no_optional (first _ _ e))

-- what the tests of the code say of a word
plain : (w i : ℕ) → w < 256 → (w ≡ 125 → ⊥) → body_place w i ≡ None → Plain w
plain w i h n m =
    record {
      small = h;
      not_end = n;
      no_group = λ e. other (i + 1) (rw e);
      no_optional = λ e. other (i + 2) (rw e);
      no_union = λ e. other (i + 2) (rw e);
    }
  where
    other : (k : ℕ) → body_place w i ≡ Some k → ⊥
    other k e = cc

pub pass-other :
    (t : List ℕ) (out : Filled) (from j : ℕ) (g : Stage) → get_or t g.next 0 < 256 → j ≡ next_place t g.next
    → Passes t from out out g (record { next = j; mid = g.mid; run = g.run })
pass-other t out from j g small e all rest pre final n m s =
    let i = g.next in
    let p = plain (get_or t i 0) i small n m in
    let idle = stage-items t rest final from all pre out g s p.no_union in
    let v = view-at t i (get_or t i 0) s.items rest refl (items-walks idle.0) in
    let o = over (drop i t) s.items rest s.left s.run (subst Plain (sym (first_word t i)) p) v in
    let held = stage-holds t rest final from all pre out g s idle.1 in
    let inside = stage-inside t rest final from all pre out g s in
    let room = s.room in
    let forward = next-forward t i j e in
    let J = node_bytes (joined s.left (pattern_set s.run)) in
    record {
      start = s.start;
      left = s.left;
      run = s.run;
      pending = none;
      items = o.later;
      coming = subst (λ (ws : List ℕ). Items ws o.later rest) (sym (next_place_lem t i j e)) o.items;
      yields = o.yields ∙ s.yields;
      closed = tt;
      holds = none-waits out pre J all held;
      middle = s.middle;
      count = s.count;
      few = s.few;
      room = omega (arith, length-drop i t, length-drop j t);
    }
