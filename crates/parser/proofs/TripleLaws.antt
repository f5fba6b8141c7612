-- A stage goes on over a triple, in a new set (`triple-new`) or in the last one (`triple-more`). Assumes nothing.
use mathlib.Core.Path.{◌≡◌, refl, sym, ap, ◌∙◌, subst}
use mathlib.Core.Bool.{Bool, true, false, true≢false, ◌||◌}
use mathlib.Core.List.{List, [], ◌∷◌, ◌++◌, append_assoc}
use mathlib.Core.Logic.{◌⊎◌, inl, inr}
use mathlib.Core.Option.{none}
use Prim.Native.Nat.{ℕ, zero, suc, ◌+◌, ◌≤◌, ◌<◌}
use native.Mathlib.Omega.{arith}
use lib.Dec.{eqb, leb}
use lib.ListN.{length, drop, get_or, length-append, length-map}
use borrow.Author.Tests.{eqb-true, eqb-false, leb-true, leb-false, le-leb, eq-eqb, ne_eqb}
use Rattle.tsparql.specs.Query.{Node, Pattern, pattern_set}
use Rattle.tsparql.specs.Writing.{node_bytes}
use Rattle.grammar.specs.Tokens.{Token}
use Rattle.grammar.specs.Grammar.{Slot}
use Rattle.grammar.specs.Meaning.{Item, a_triple, pattern_of, joined, gathered}
use Rattle.blocks.specs.Buffers.{Filled}
use Rattle.blocks.specs.Blocks.{Holds}
use Rattle.words.specs.Words.{token_word, words, slot_word}
use Rattle.words.proofs.WordLaws.{words-on}
use Rattle.groups.specs.Items.{Follows, Walks}
use Rattle.groups.proofs.Fronts.{k_triple, kind_of, View, at_triple, items-walks, view-at}
use Rattle.parser.specs.Sets.{before, Begins, Adds}
use Rattle.parser.specs.Stages.{Triples}
use Rattle.parser.specs.declared.Stage.{Stage}
use Rattle.parser.proofs.SetLaws.{joined-empty, joined-set, before-size, set-size}
use Rattle.parser.proofs.StageLaws.{follows-longer, none-waits, stage-items, stage-holds}

-- ---- whether a set begins

pub set-begins : (run : ℕ) → (eqb run 0 || leb 15 run) ≡ true → (run ≡ 0) ⊎ (15 ≤ run)
set-begins run e = go (eqb run 0) refl
  where
    go : (b : Bool) → eqb run 0 ≡ b → (run ≡ 0) ⊎ (15 ≤ run)
    go true p = inl (eqb-true run 0 p)
    go false p = inr (leb-true 15 run (rw p at e))

pub set-goes-on : (run : ℕ) → (eqb run 0 || leb 15 run) ≡ false → (1 ≤ run) × (run < 15)
set-goes-on run e = go (eqb run 0) refl run refl
  where
    go : (b : Bool) → eqb run 0 ≡ b → (n : ℕ) → n ≡ run → (1 ≤ run) × (run < 15)
    go true p n q = absurd (true≢false (rw p at e))
    go false p (zero) q = absurd (eqb-false run 0 p (sym q))
    go false p (suc n) q = let l = leb-false 15 run (rw p at e) in (omega arith, omega arith)

-- ---- the triple at the front

record Front (t : List ℕ) (rest : List Token) (i : ℕ) (is : List Item) : Type 0 where
  x : Slot
  y : Slot
  z : Slot
  tail : List Token
  later : List Item
  written : drop i t ≡ slot_word x ∷ slot_word y ∷ slot_word z ∷ words tail
  means : is ≡ a_triple (pattern_of x y z) ∷ later
  follows : Follows tail later rest

front : (t : List ℕ) (rest : List Token) (i : ℕ) (is : List Item) → View (drop i t) is rest k_triple → Front t rest i is
front t rest i is (at_triple x y z tail later e q f) =
    record { x = x; y = y; z = z; tail = tail; later = later; written = e; means = q; follows = f }

-- a word of at least 256 begins one
triple-at :
    (t : List ℕ) (i : ℕ) (is : List Item) (rest : List Token) → 256 ≤ get_or t i 0 → Walks (drop i t) is rest
    → View (drop i t) is rest k_triple
triple-at t i is rest h w =
    let same : kind_of (get_or t i 0) ≡ k_triple = rw (le-leb 256 (get_or t i 0) h) in
    subst (View (drop i t) is rest) same (view-at t i (get_or t i 0) is rest refl w)

-- ---- a new set

-- the empty set has one byte
empty-set : (out : Filled) (pre : List ℕ) (n : ℕ) → Holds out (pre ++ (0 ∷ [])) n → Holds out (pre ++ node_bytes (pattern_set [])) n
unfolding node_bytes
empty-set out pre n h = h

gathered-new :
    (left : Node) (run : List Pattern) (p : Pattern) (later : List Item) → (length run ≡ 0) ⊎ (length run ≡ 15)
    → gathered (joined left (pattern_set run)) (p ∷ []) later ≡ gathered left run (a_triple p ∷ later)
unfolding gathered
gathered-new left [] p later (inl e) = ap (λ (x : Node). gathered x (p ∷ []) later) (joined-empty left)
gathered-new left (q ∷ run) p later (inl e) = absurd (omega arith)
gathered-new left run p later (inr e) = sym (rw (eq-eqb (length run) 15 e))

pub triple-new :
    (t : List ℕ) (out out₁ out₂ : Filled) (from e : ℕ) (g : Stage) → (g.run ≡ 0) ⊎ (15 ≤ g.run) → Begins out out₁ from
    → Adds t g.next out₁ out₂ 0 → e ≡ out₂.end → Triples t from out out₂ g (record { next = g.next + 3; mid = e; run = 1 })
triple-new t out out₁ out₂ from e g o begins adds end all rest pre final w s =
    let idle = stage-items t rest final from all pre out g s (λ c. omega arith) in
    let f = front t rest g.next s.items (triple-at t g.next s.items rest w (items-walks idle.0)) in
    let p = pattern_of f.x f.y f.z in
    let L = joined s.left (pattern_set s.run) in
    let J = node_bytes L in
    let N = node_bytes (joined L (pattern_set (p ∷ []))) in
    let start = s.start in
    let held = stage-holds t rest final from all pre out g s idle.1 in
    let size = held.size in
    let room = s.room in
    let words₁ = ap length f.written in
    let words₂ = length-map f.tail token_word in
    let more = follows-longer _ _ _ f.follows in
    let small = before-size L in
    let wide = length-append pre J in
    let wide₂ = length-append pre (before L ++ (0 ∷ [])) in
    let wide₃ = length-append (before L) (0 ∷ []) in
    let h₁ = begins all pre L start held (omega arith) in
    let size₁ = h₁.size in
    let h₁' = subst (λ (l : List ℕ). Holds out₁ l all) (sym (append_assoc pre (before L) (0 ∷ []))) h₁ in
    let set = empty-set out₁ (pre ++ before L) all h₁' in
    let h₂ = adds all (pre ++ before L) [] f.x f.y f.z (words f.tail) refl (omega arith) f.written set (omega arith) in
    let flat : (pre ++ before L) ++ node_bytes (pattern_set (p ∷ [])) ≡ pre ++ N =
    append_assoc pre (before L) (node_bytes (pattern_set (p ∷ []))) ∙ ap (λ (l : List ℕ). pre ++ l) (joined-set L p []) in
    let h₃ = subst (λ (l : List ℕ). Holds out₂ l all) flat h₂ in
    let size₃ = h₃.size in
    let one = set-size (p ∷ []) in
    let wide₄ = length-append (pre ++ before L) (node_bytes (pattern_set (p ∷ []))) in
    let on = words-on t _ g.next 3 f.written in
    record {
      start = start;
      left = L;
      run = p ∷ [];
      pending = none;
      items = f.later;
      coming = record { tail = f.tail; written = on; follows = f.follows };
      yields =
          gathered-new s.left s.run p f.later (full g.run (length s.run) s.count s.few o)
          ∙ sym (ap (λ (is : List Item). gathered s.left s.run is) f.means)
          ∙ s.yields;
      closed = tt;
      holds = none-waits out₂ pre N all h₃;
      middle = end ∙ size₃ ∙ length-append pre N;
      count = refl;
      few = omega arith;
      room = omega (arith, ap length on, ap length flat, wide₄, length-append pre (before L));
    }
  where
    full : (r n : ℕ) → r ≡ n → n ≤ 15 → (r ≡ 0) ⊎ (15 ≤ r) → (n ≡ 0) ⊎ (n ≡ 15)
    full r n c l (inl x) = inl (omega arith)
    full r n c l (inr x) = inr (omega arith)

-- ---- the last set

gathered-more :
    (left : Node) (run : List Pattern) (p : Pattern) (later : List Item) → (length run ≡ 15 → ⊥)
    → gathered left (run ++ (p ∷ [])) later ≡ gathered left run (a_triple p ∷ later)
unfolding gathered
gathered-more left run p later e = sym (rw (ne_eqb (length run) 15 e))

-- a set that is not empty
joined-run :
    (x : Node) (run : List Pattern) → 1 ≤ length run
    → before x ++ node_bytes (pattern_set run) ≡ node_bytes (joined x (pattern_set run))
joined-run x [] h = absurd (omega arith)
joined-run x (p ∷ ps) h = joined-set x p ps

pub triple-more :
    (t : List ℕ) (out out₁ : Filled) (from e : ℕ) (g : Stage) → 1 ≤ g.run → g.run < 15 → Adds t g.next out out₁ g.run → e ≡ out₁.end
    → Triples t from out out₁ g (record { next = g.next + 3; mid = e; run = g.run + 1 })
triple-more t out out₁ from e g o l adds end all rest pre final w s =
    let idle = stage-items t rest final from all pre out g s (λ c. omega arith) in
    let f = front t rest g.next s.items (triple-at t g.next s.items rest w (items-walks idle.0)) in
    let p = pattern_of f.x f.y f.z in
    let x = s.left in
    let run = s.run in
    let run' = run ++ (p ∷ []) in
    let N = node_bytes (joined x (pattern_set run')) in
    let start = s.start in
    let held = stage-holds t rest final from all pre out g s idle.1 in
    let size = held.size in
    let room = s.room in
    let count = s.count in
    let words₁ = ap length f.written in
    let words₂ = length-map f.tail token_word in
    let more = follows-longer _ _ _ f.follows in
    let long = length-append run (p ∷ []) in
    let was : pre ++ node_bytes (joined x (pattern_set run)) ≡ (pre ++ before x) ++ node_bytes (pattern_set run) =
    ap (λ (l : List ℕ). pre ++ l) (sym (joined-run x run (omega arith))) ∙ sym (append_assoc pre (before x) (node_bytes (pattern_set run))) in
    let becomes : (pre ++ before x) ++ node_bytes (pattern_set run') ≡ pre ++ N =
    append_assoc pre (before x) (node_bytes (pattern_set run')) ∙ ap (λ (l : List ℕ). pre ++ l) (joined-run x run' (omega arith)) in
    let held' = subst (λ (l : List ℕ). Holds out l all) was held in
    let size' = held'.size in
    let h = adds all (pre ++ before x) run f.x f.y f.z (words f.tail) count (omega arith) f.written held' (omega arith) in
    let size₁ = h.size in
    let one = set-size run in
    let two = set-size run' in
    let on = words-on t _ g.next 3 f.written in
    record {
      start = start;
      left = x;
      run = run';
      pending = none;
      items = f.later;
      coming = record { tail = f.tail; written = on; follows = f.follows };
      yields =
          gathered-more x run p f.later (λ c. omega arith) ∙ sym (ap (λ (is : List Item). gathered x run is) f.means) ∙ s.yields;
      closed = tt;
      holds = none-waits out₁ pre N all (subst (λ (l : List ℕ). Holds out₁ l all) becomes h);
      middle = end ∙ size₁ ∙ ap length becomes ∙ length-append pre N;
      count = omega arith;
      few = omega arith;
      room = omega (
        arith,
        ap length on,
        length-append (pre ++ before x) (node_bytes (pattern_set run)),
        length-append (pre ++ before x) (node_bytes (pattern_set run')),
      );
    }
