-- Bytes written into a buffer: none; a run and then another; one byte more of a text. Assumes nothing.
use mathlib.Core.Path.{◌≡◌, refl, sym, ap, ◌∙◌}
use mathlib.Core.Bool.{Bool, true, false}
use mathlib.Core.List.{List, [], ◌∷◌, ◌++◌}
use Prim.Native.Nat.{ℕ, suc, ◌+◌, ◌≤◌, ◌<◌}
use native.Mathlib.Numerals.{add-one}
use native.Mathlib.Omega.{arith}
use borrow.Author.Tests.{ltb-true, ltb-false}
use lib.Dec.{ltb}
use lib.ListN.{length, take, get_or, set, length-set, length-append}
use lib.Seq.{sets, length-sets, set_out, take-suc}
use Rattle.text.specs.declared.Page.{Page}
use Rattle.text.specs.Writing.{how_many_fit, Puts, Prints}

-- ---- stores from a place on

-- nothing is stored past the end
sets-out : (vs l : List ℕ) (i : ℕ) → length l ≤ i → sets l i vs ≡ l
sets-out [] l i h = refl
sets-out (v ∷ vs) l i h =
    ap (λ (k : List ℕ). sets k (suc i) vs) (set_out l i v h) ∙ sets-out vs l (suc i) (omega arith)

-- a run and then another, from the place behind what fits
sets-append : (xs ys l : List ℕ) (i : ℕ) → sets (sets l i xs) (i + how_many_fit (length xs) i (length l)) ys ≡ sets l i (xs ++ ys)
sets-append [] ys l i = let e : i + how_many_fit 0 i (length l) ≡ i = omega arith in rw e
sets-append (x ∷ xs) ys l i = go (ltb i (length l)) refl (sets-append xs ys (set l i x) (suc i))
  where
    go : (b : Bool) → ltb i (length l) ≡ b
        → sets (sets (set l i x) (suc i) xs) (suc i + how_many_fit (length xs) (suc i) (length (set l i x))) ys
        ≡ sets (set l i x) (suc i) (xs ++ ys)
        → sets (sets (set l i x) (suc i) xs) (i + how_many_fit (suc (length xs)) i (length l)) ys ≡ sets (set l i x) (suc i) (xs ++ ys)
    go true e later =
        let h = ltb-true i (length l) e in
        let same = length-set l i x in
        let p : i + how_many_fit (suc (length xs)) i (length l) ≡ suc i + how_many_fit (length xs) (suc i) (length (set l i x)) = omega arith in
        rw p later
    go false e later =
        let h = ltb-false i (length l) e in
        let same = length-set l i x in
        let kept = length-sets (set l i x) (suc i) xs in
        sets-out ys (sets (set l i x) (suc i) xs) (i + how_many_fit (suc (length xs)) i (length l)) (omega arith)
        ∙ sets-out xs (set l i x) (suc i) (omega arith)
        ∙ sym (sets-out (xs ++ ys) (set l i x) (suc i) (omega arith))

-- ---- writing

pub puts_none : (at : ℕ) (out : List ℕ) → Puts [] at out out at
puts_none at out = record { buffer = refl; place = omega arith }

-- the buffer keeps its length
pub puts-length : {bytes : List ℕ} {at : ℕ} {out out' : List ℕ} {r : ℕ} → Puts bytes at out out' r → length out' ≡ length out
puts-length {bytes} {at} {out} p = ap length p.buffer ∙ length-sets out at bytes

-- a run and then another
pub puts_then : {xs ys : List ℕ} {at : ℕ} {out mid out' : List ℕ} {p r : ℕ}
    → Puts xs at out mid p → Puts ys p mid out' r → Puts (xs ++ ys) at out out' r
puts_then {xs} {ys} {at} {out} {mid} {out'} {p} {r} a b =
    let kept = puts-length a in
    let both = length-append xs ys in
    record {
      buffer = b.buffer ∙ rw (a.buffer, a.place) (sets-append xs ys out at);
      place = omega (arith, a.place, b.place);
    }

-- ---- a page

pub prints_none : (p : Page) → Prints [] p p
prints_none p = record { puts = puts_none p.at p.bytes.now; same = refl }

-- a run and then another
pub prints_then : {xs ys : List ℕ} {p q r : Page} → Prints xs p q → Prints ys q r → Prints (xs ++ ys) p r
prints_then a b = record { puts = puts_then a.puts b.puts; same = b.same ∙ a.same }

-- one byte more of a text
pub prints-more : (text : List ℕ) (i : ℕ) {p q r : Page} → Prints (take i text) p q → i < length text
    → Prints (get_or text i 0 ∷ []) q r → Prints (take (i + 1) text) p r
prints-more text i a h b = rw (add-one i, take-suc text i 0 h) (prints_then a b)
