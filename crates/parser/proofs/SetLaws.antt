-- Nodes in a buffer: how long they are, and that each function leaves what it promises. Assumes nothing.
use mathlib.Core.Path.{◌≡◌, refl, sym, ap, ◌∙◌, subst}
use mathlib.Core.Bool.{Bool, true, false, cond, true≢false}
use mathlib.Core.List.{List, [], ◌∷◌, ◌++◌, append_assoc, append-nil}
use mathlib.Core.Option.{none, some}
use Prim.Native.Nat.{ℕ, ◌+◌, ◌*◌, ◌-◌, ◌%◌, ◌≤◌, ◌<◌}
use native.Mathlib.Omega.{arith}
use lib.ListN.{length, drop, get_or, set, length-append, length-set}
use lib.Seq.{set_at}
use borrow.Author.Tests.{lt-ltb, le-ltb}
use Rattle.tsparql.specs.Lists.{concat_map}
use Rattle.tsparql.proofs.ListLaws.{concat_map-append}
use Rattle.tsparql.specs.Query as Q
use Rattle.tsparql.specs.Query.{Node, Pattern, pattern_set, join, left_join, union, project_trust, ensure_trust}
use Rattle.tsparql.specs.Writing.{node_bytes, condition_bytes, pattern_bytes, three_bytes, slot_number}
use Rattle.grammar.proofs.Sizes.{patterns-size}
use Rattle.grammar.specs.Grammar.{Slot, term, variable}
use Rattle.grammar.specs.Meaning.{is_empty_set, joined, slot_of, pattern_of}
use Rattle.blocks.specs.Buffers.{Filled, buffer, cut, appended}
use Rattle.blocks.specs.Blocks.{Holds, Puts, Exchanges, Appends}
use Rattle.blocks.proofs.Holding.{holds-split, split-holds, holds-cut, appends, appended-on}
use Rattle.words.specs.Words.{slot_word}
use Rattle.words.proofs.WordLaws.{word_at, word_first}
use Rattle.parser.specs.Sets.{Unites, Joins, before, Begins, slot_bytes, Adds}

-- ---- lengths

pub node-large : (x : Node) → 1 ≤ length (node_bytes x)
unfolding node_bytes
node-large (pattern_set ps) = omega arith
node-large (join x y) = omega arith
node-large (left_join c x y) = omega arith
node-large (union x y) = omega arith
node-large (Q.filter c x) = omega arith
node-large (project_trust v x) = omega arith
node-large (ensure_trust l u x) = omega arith

is-empty : (x : Node) → is_empty_set x ≡ true → x ≡ pattern_set []
is-empty (pattern_set []) e = refl
is-empty (pattern_set (p ∷ ps)) e = absurd (true≢false (sym e))
is-empty (join x y) e = absurd (true≢false (sym e))
is-empty (left_join c x y) e = absurd (true≢false (sym e))
is-empty (union x y) e = absurd (true≢false (sym e))
is-empty (Q.filter c x) e = absurd (true≢false (sym e))
is-empty (project_trust v x) e = absurd (true≢false (sym e))
is-empty (ensure_trust l u x) e = absurd (true≢false (sym e))

empty-bytes : (x : Node) → is_empty_set x ≡ true → node_bytes x ≡ 0 ∷ []
unfolding node_bytes
empty-bytes x e = ap node_bytes (is-empty x e)

pub full-large : (x : Node) → is_empty_set x ≡ false → 2 ≤ length (node_bytes x)
unfolding node_bytes pattern_bytes
full-large (pattern_set []) e = absurd (true≢false e)
full-large (pattern_set (p ∷ ps)) e = omega arith
full-large (join x y) e = omega (arith, length-append (node_bytes x) (node_bytes y), node-large x)
full-large (left_join c x y) e =
    let both = length-append (node_bytes x) (node_bytes y) in
    omega (arith, length-append (condition_bytes c) (node_bytes x ++ node_bytes y), both, node-large x)
full-large (union x y) e = omega (arith, length-append (node_bytes x) (node_bytes y), node-large x)
full-large (Q.filter c x) e = omega (arith, length-append (condition_bytes c) (node_bytes x), node-large x)
full-large (project_trust v x) e = omega (arith, node-large x)
full-large (ensure_trust l u x) e = omega arith

-- ---- sets

pub joined-empty : (x : Node) → joined x (pattern_set []) ≡ x
joined-empty x = go (is_empty_set x) refl
  where
    go : (b : Bool) → is_empty_set x ≡ b → joined x (pattern_set []) ≡ x
    go true e = ap (λ (b : Bool). cond b (pattern_set []) x) e ∙ sym (is-empty x e)
    go false e = ap (λ (b : Bool). cond b (pattern_set []) x) e

pub joined-set :
    (x : Node) (p : Pattern) (ps : List Pattern)
    → before x ++ node_bytes (pattern_set (p ∷ ps)) ≡ node_bytes (joined x (pattern_set (p ∷ ps)))
unfolding node_bytes
joined-set x p ps = go (is_empty_set x) refl
  where
    go : (b : Bool) → is_empty_set x ≡ b → before x ++ node_bytes (pattern_set (p ∷ ps)) ≡ node_bytes (joined x (pattern_set (p ∷ ps)))
    go true e = rw e
    go false e = rw e

pub before-size : (x : Node) → length (before x) ≤ length (node_bytes x) + 1
before-size x = go (is_empty_set x)
  where
    go : (b : Bool) → length (cond b [] (16 ∷ node_bytes x)) ≤ length (node_bytes x) + 1
    go true = omega arith
    go false = omega arith

pub set-size : (ps : List Pattern) → length (node_bytes (pattern_set ps)) ≡ 1 + 9 * length ps
unfolding node_bytes
set-size ps = omega (arith, patterns-size ps)

-- ---- united

pub unite-some : (out out' : Filled) (mid end : ℕ) → mid < end → Puts out out' mid 48 → Unites out out' mid end
unfolding node_bytes
unite-some out out' mid end h a all pre none x e f g room = absurd (omega arith)
unite-some out out' mid end h a all pre (some u) x e f g room = a all pre (node_bytes u ++ node_bytes x) (sym e) g room

pub unite-none : (out : Filled) (mid end : ℕ) → end ≤ mid → Unites out out mid end
unite-none out mid end h all pre none x e f g room = g
unite-none out mid end h all pre (some u) x e f g room = absurd (omega (arith, node-large u))

-- ---- joined

-- lengths of the blocks
pub joins-none : (out out' : Filled) (from mid : ℕ) → out.end ≤ mid → Joins out out' from mid
joins-none out out' from mid h all pre x y e f g room =
    let s = g.size in
    absurd (omega (arith, length-append pre (node_bytes x ++ node_bytes y), length-append (node_bytes x) (node_bytes y), node-large y))

pub joins-none-2 : (out out' : Filled) (from mid : ℕ) → mid ≤ from → Joins out out' from mid
joins-none-2 out out' from mid h all pre x y e f g room = absurd (omega (arith, node-large x))

pub joins-right-empty : (out out' : Filled) (from mid : ℕ) → out.end - mid ≡ 1 → out' ≡ cut out mid → Joins out out' from mid
joins-right-empty out out' from mid q w all pre x y e f g room = go (is_empty_set x) refl (is_empty_set y) refl
  where
    go : (b : Bool) → is_empty_set x ≡ b → (c : Bool) → is_empty_set y ≡ c → Holds out' (pre ++ node_bytes (joined x y)) all
    go b ex false ey =
        let s = g.size in
        absurd (omega (arith, length-append pre (node_bytes x ++ node_bytes y), length-append (node_bytes x) (node_bytes y), full-large y ey))
    go true ex true ey =
        let h = subst (λ (b : Filled). Holds b (pre ++ node_bytes x) all) (sym w)
        (holds-cut out (pre ++ node_bytes x) (node_bytes y) all mid
        (subst (λ (l : List ℕ). Holds out l all) (sym (append_assoc pre (node_bytes x) (node_bytes y))) g)
        (f ∙ sym (length-append pre (node_bytes x)))) in
        let so : node_bytes x ≡ node_bytes (joined x y) = empty-bytes x ex ∙ sym (empty-bytes y ey) ∙ rw ex in
        subst (λ (l : List ℕ). Holds out' (pre ++ l) all) so h
    go false ex true ey =
        let h = subst (λ (b : Filled). Holds b (pre ++ node_bytes x) all) (sym w)
        (holds-cut out (pre ++ node_bytes x) (node_bytes y) all mid
        (subst (λ (l : List ℕ). Holds out l all) (sym (append_assoc pre (node_bytes x) (node_bytes y))) g)
        (f ∙ sym (length-append pre (node_bytes x)))) in
        let so : node_bytes x ≡ node_bytes (joined x y) = rw (ex, ey) in
        subst (λ (l : List ℕ). Holds out' (pre ++ l) all) so h

pub joins-left-empty :
    (out out₁ out' : Filled) (from mid n : ℕ) → n ≡ out.end → mid - from ≡ 1 → Exchanges out out₁ from mid → out' ≡ cut out₁ (n - 1)
    → Joins out out' from mid
joins-left-empty out out₁ out' from mid n end q a w all pre x y e f g room = go (is_empty_set x) refl
  where
    go : (b : Bool) → is_empty_set x ≡ b → Holds out' (pre ++ node_bytes (joined x y)) all
    go false ex = absurd (omega (arith, full-large x ex))
    go true ex =
        let s = g.size in
        let h = a all pre (node_bytes x) (node_bytes y) (sym e) (sym f) g in
        let both = length-append (node_bytes x) (node_bytes y) in
        let k : n - 1 ≡ length (pre ++ node_bytes y) =
        omega (arith, length-append pre (node_bytes x ++ node_bytes y), both, length-append pre (node_bytes y)) in
        let h₂ = subst (λ (b : Filled). Holds b (pre ++ node_bytes y) all) (sym w)
        (holds-cut out₁ (pre ++ node_bytes y) (node_bytes x) all (n - 1)
        (subst (λ (l : List ℕ). Holds out₁ l all) (sym (append_assoc pre (node_bytes y) (node_bytes x))) h) k) in
        let so : node_bytes y ≡ node_bytes (joined x y) = rw ex in
        subst (λ (l : List ℕ). Holds out' (pre ++ l) all) so h₂

pub joins-both :
    (out out' : Filled) (from mid : ℕ) → (mid - from ≡ 1 → ⊥) → (out.end - mid ≡ 1 → ⊥) → Puts out out' from 16
    → Joins out out' from mid
unfolding node_bytes
joins-both out out' from mid p q a all pre x y e f g room = go (is_empty_set x) refl (is_empty_set y) refl
  where
    go : (b : Bool) → is_empty_set x ≡ b → (c : Bool) → is_empty_set y ≡ c → Holds out' (pre ++ node_bytes (joined x y)) all
    go true ex c ey = absurd (p (omega (arith, ap length (empty-bytes x ex))))
    go false ex true ey =
        let s = g.size in
        let both = length-append (node_bytes x) (node_bytes y) in
        absurd (q (omega (arith, ap length (empty-bytes y ey), length-append pre (node_bytes x ++ node_bytes y), both)))
    go false ex false ey =
        let so : node_bytes (join x y) ≡ node_bytes (joined x y) = rw (ex, ey) in
        subst (λ (l : List ℕ). Holds out' (pre ++ l) all) so (a all pre (node_bytes x ++ node_bytes y) (sym e) g room)

-- ---- an empty set

pub begins-none : (out : Filled) (from : ℕ) → out.end ≤ from → Begins out out from
begins-none out from h all pre x e g room = let s = g.size in absurd (omega (arith, length-append pre (node_bytes x), node-large x))

pub begins-empty : (out : Filled) (from : ℕ) → out.end - from ≡ 1 → Begins out out from
begins-empty out from q all pre x e g room = go (is_empty_set x) refl
  where
    go : (b : Bool) → is_empty_set x ≡ b → Holds out (pre ++ (before x ++ (0 ∷ []))) all
    go false ex = let s = g.size in absurd (omega (arith, length-append pre (node_bytes x), full-large x ex))
    go true ex =
        let so : node_bytes x ≡ before x ++ (0 ∷ []) = empty-bytes x ex ∙ rw ex in
        subst (λ (l : List ℕ). Holds out (pre ++ l) all) so g

pub begins-full :
    (out out₁ out₂ : Filled) (from : ℕ) → (out.end - from ≡ 1 → ⊥) → Appends out out₁ (0 ∷ []) → Puts out₁ out₂ from 16
    → Begins out out₂ from
begins-full out out₁ out₂ from q a b all pre x e g room = go (is_empty_set x) refl
  where
    go : (c : Bool) → is_empty_set x ≡ c → Holds out₂ (pre ++ (before x ++ (0 ∷ []))) all
    go true ex = let s = g.size in absurd (q (omega (arith, length-append pre (node_bytes x), ap length (empty-bytes x ex))))
    go false ex =
        let s = g.size in
        let h = a all (pre ++ node_bytes x) g (omega arith) in
        let k = h.size in
        let h₁ = subst (λ (y : List ℕ). Holds out₁ y all) (append_assoc pre (node_bytes x) (0 ∷ [])) h in
        let h₂ = b all pre (node_bytes x ++ (0 ∷ [])) (sym e) h₁
        (omega (arith, length-append (pre ++ node_bytes x) (0 ∷ []))) in
        let so : 16 ∷ (node_bytes x ++ (0 ∷ [])) ≡ before x ++ (0 ∷ []) = rw ex in
        subst (λ (y : List ℕ). Holds out₂ (pre ++ y) all) so h₂

-- ---- a byte

-- the byte at h
holds-set :
    (out : Filled) (pre rest : List ℕ) (h v a all : ℕ) → length pre ≡ h → Holds out (pre ++ (a ∷ rest)) all
    → Holds (buffer (set out.bytes h v) out.end) (pre ++ (v ∷ rest)) all
holds-set out pre rest h v a all e g =
    let s = g.size in
    let D = drop out.end out.bytes in
    let so : set out.bytes h v ≡ (pre ++ (v ∷ rest)) ++ D =
    ap (λ (x : List ℕ). set x h v) (holds-split out (pre ++ (a ∷ rest)) all g ∙ append_assoc pre (a ∷ rest) D)
    ∙ set_at pre a (rest ++ D) v h e ∙ sym (append_assoc pre (v ∷ rest) D) in
    split-holds (set out.bytes h v) (pre ++ (v ∷ rest)) D out.end all so
    (omega (arith, length-append pre (a ∷ rest), length-append pre (v ∷ rest))) (length-set out.bytes h v ∙ g.whole)

-- ---- slots

-- they are the bytes of the slot whose word it is
slot-bytes : (x : Slot) → slot_bytes (slot_word x) ≡ three_bytes (slot_number (slot_of x))
slot-bytes (variable v) =
    let s = v.small in
    let name : (256 + v.name) % 256 ≡ v.name = omega arith in
    rw (lt-ltb (256 + v.name) 2097152 (omega arith), name)
slot-bytes (term x) =
    let m = x.most in
    let number : (2097152 + x.number) % 2097152 ≡ x.number = omega arith in
    rw (le-ltb (2097152 + x.number) 2097152 (omega arith), number)

-- ---- a triple

set_more :
    (ps : List Pattern) (p : Pattern)
    → node_bytes (pattern_set (ps ++ (p ∷ []))) ≡ (length ps + 1) ∷ (concat_map pattern_bytes ps ++ pattern_bytes p)
unfolding node_bytes
set_more ps p =
    let n : 0 + length (ps ++ (p ∷ [])) ≡ length ps + 1 = omega (arith, length-append ps (p ∷ [])) in
    let all : concat_map pattern_bytes (ps ++ (p ∷ [])) ≡ concat_map pattern_bytes ps ++ pattern_bytes p =
    concat_map-append pattern_bytes ps (p ∷ []) ∙ ap (λ (l : List ℕ). concat_map pattern_bytes ps ++ l) (append-nil (pattern_bytes p)) in
    ap (λ (c : ℕ). c ∷ concat_map pattern_bytes (ps ++ (p ∷ []))) n ∙ ap (λ (l : List ℕ). (length ps + 1) ∷ l) all

three-parts : {a b c a' b' c' : List ℕ} → a ≡ a' → b ≡ b' → c ≡ c' → (a ++ b) ++ c ≡ a' ++ (b' ++ c')
three-parts {a} {b} {c} {a'} {b'} {c'} p q r = append_assoc a b c ∙ rw (p, q, r)

pub adds :
    (t : List ℕ) (i : ℕ) (out out₀ out₁ out₂ out₃ : Filled) (n run : ℕ) → n ≡ out.end → 9 * run < n
    → out₀ ≡ buffer (set out.bytes (n - 1 - 9 * run) (run + 1)) out.end → out₁ ≡ appended out₀ (slot_bytes (get_or t i 0))
    → out₂ ≡ appended out₁ (slot_bytes (get_or t (i + 1) 0)) → out₃ ≡ appended out₂ (slot_bytes (get_or t (i + 2) 0))
    → Adds t i out out₃ run
unfolding node_bytes pattern_bytes
adds t i out out₀ out₁ out₂ out₃ n run end z m p q w all pre ps x y v rest e few f g room =
    let size = g.size in
    let k = patterns-size ps in
    let P = concat_map pattern_bytes ps in
    let B = pattern_bytes (pattern_of x y v) in
    let place : length pre ≡ n - 1 - 9 * run = omega (arith, length-append pre ((0 + length ps) ∷ P)) in
    let count = holds-set out pre P (n - 1 - 9 * run) (run + 1) (0 + length ps) all place g in
    let h₀ = subst (λ (b : Filled). Holds b (pre ++ ((run + 1) ∷ P)) all) (sym m) count in
    let same : out₀.end ≡ out.end = ap (λ (b : Filled). b.end) m in
    let X : slot_bytes (get_or t i 0) ≡ three_bytes (slot_number (slot_of x)) = ap slot_bytes (word_first t _ i _ f) ∙ slot-bytes x in
    let Y : slot_bytes (get_or t (i + 1) 0) ≡ three_bytes (slot_number (slot_of y)) = ap slot_bytes (word_at t _ i 1 f) ∙ slot-bytes y in
    let Z : slot_bytes (get_or t (i + 2) 0) ≡ three_bytes (slot_number (slot_of v)) = ap slot_bytes (word_at t _ i 2 f) ∙ slot-bytes v in
    let three = appended-on _ _ out₀ (appended-on _ _ out₀ p q) w in
    let whole : out₃ ≡ appended out₀ B = three ∙ ap (appended out₀) (three-parts X Y Z) in
    let h = appends B whole all (pre ++ ((run + 1) ∷ P)) h₀ (omega arith) in
    let flat : (pre ++ ((run + 1) ∷ P)) ++ B ≡ pre ++ node_bytes (pattern_set (ps ++ (pattern_of x y v ∷ []))) =
    append_assoc pre ((run + 1) ∷ P) B
    ∙ ap (λ (c : ℕ). pre ++ ((c + 1) ∷ (P ++ B))) e
    ∙ ap (λ (l : List ℕ). pre ++ l) (sym (set_more ps (pattern_of x y v))) in
    subst (λ (l : List ℕ). Holds out₃ l all) flat h

pub adds_none : (t : List ℕ) (i : ℕ) (out : Filled) (run : ℕ) → 14 < run → Adds t i out out run
adds_none t i out run h all pre ps x y v rest e few f g room = absurd (omega arith)

pub adds-none-2 : (t : List ℕ) (i : ℕ) (out : Filled) (run : ℕ) → out.end ≤ 9 * run → Adds t i out out run
unfolding node_bytes
adds-none-2 t i out run h all pre ps x y v rest e few f g room =
    let size = g.size in
    absurd (omega (arith, patterns-size ps, length-append pre ((0 + length ps) ∷ concat_map pattern_bytes ps)))
