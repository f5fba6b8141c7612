-- The loop that moves a block on by one byte: what it has moved so far (`Carried`), and the buffer at its end. Assumes nothing.
use mathlib.Core.Path.{◌≡◌, refl, sym, ap, ◌∙◌}
use mathlib.Core.Bool as B
use mathlib.Core.List.{List, [], ◌∷◌, ◌++◌, append-nil}
use Prim.Native.Nat.{ℕ, suc, ◌+◌, ◌-◌, ◌≤◌, ◌<◌}
use native.Mathlib.Omega.{arith}
use native.Mathlib.Numerals.{add-one}
use lib.Dec.{leb}
use lib.ListN.{length, take, drop, get_or, set, length-drop, drop_of_length-le}
use lib.Seq.{take-suc, drop-cons, set_at, get_or_at, length-take-le, append_snoc, take-take, drop-drop}
use borrow.Author.Tests.{lt-leb, le-ltb}
use Rattle.blocks.specs.Buffers.{Filled, shifted, inserted}

-- so many bytes of a part have moved on by one behind v, and the last of them is carried
pub record Carried (v : ℕ) (part now : List ℕ) (carried k : ℕ) : Type 0 where
  pub last : carried ≡ get_or (v ∷ part) k 0
  pub so : now ≡ take k (v ∷ part) ++ drop k part

pub carried-none : (v : ℕ) (part : List ℕ) → Carried v part part v 0
carried-none v part = record { last = refl; so = refl }

module _ (v : ℕ) (part now : List ℕ) (carried k : ℕ) (c : Carried v part now carried k) where
  -- what the loop holds at k, where the byte there has not moved on yet
  here : k < length part → now ≡ take k (v ∷ part) ++ (get_or part k 0 ∷ drop (suc k) part)
  here h = c.so ∙ ap (λ (x : List ℕ). take k (v ∷ part) ++ x) (drop-cons part k 0 h)

  front : k < length part → length (take k (v ∷ part)) ≡ k
  front h = length-take-le k (v ∷ part) (omega arith)

  pub carried-one :
      (d r : ℕ) → k < length part → d ≡ carried → r ≡ get_or now k 0 → Carried v part (set now k d) r (k + 1)
  carried-one d r h e q =
      let x = get_or part k 0 in
      let rest = drop (suc k) part in
      let byte : get_or now k 0 ≡ x = ap (λ (l : List ℕ). get_or l k 0) (here h) ∙ get_or_at (take k (v ∷ part)) x rest 0 k (front h) in
      let written : set now k d ≡ take k (v ∷ part) ++ (d ∷ rest) =
      ap (λ (l : List ℕ). set l k d) (here h) ∙ set_at (take k (v ∷ part)) x rest d k (front h) in
      let more : take (suc k) (v ∷ part) ≡ take k (v ∷ part) ++ (d ∷ []) =
      take-suc (v ∷ part) k 0 (omega arith) ∙ ap (λ (y : ℕ). take k (v ∷ part) ++ (y ∷ [])) (sym (e ∙ c.last)) in
      record {
        last = q ∙ byte ∙ ap (λ (n : ℕ). get_or (v ∷ part) n 0) (sym (add-one k));
        so =
            written
            ∙ sym (append_snoc (take k (v ∷ part)) d rest)
            ∙ ap (λ (y : List ℕ). y ++ rest) (sym more)
            ∙ ap (λ (n : ℕ). take n (v ∷ part) ++ drop n part) (sym (add-one k));
      }

-- ---- the bytes at the end, and the buffer where there is no room

pub carried-all :
    (l now : List ℕ) (at e v carried k : ℕ) → at ≤ e → e < length l → length (take (e + 1 - at) (drop at l)) ≤ k
    → k ≤ length (take (e + 1 - at) (drop at l)) → Carried v (take (e + 1 - at) (drop at l)) now carried k
    → take at l ++ (now ++ drop (e + 1 - at) (drop at l)) ≡ shifted l at e v
carried-all l now at e v carried k h r below above c =
    let D = drop at l in
    let n : e + 1 - at ≡ suc (e - at) = omega arith in
    let long : length (take (suc (e - at)) D) ≡ suc (e - at) = length-take-le (suc (e - at)) D (omega (arith, length-drop at l)) in
    let last : k ≡ suc (e - at) = omega (arith, ap (λ (m : ℕ). length (take m D)) n, long) in
    let short : length (take (suc (e - at)) D) ≤ suc (e - at) = omega (arith, long) in
    let none : drop (suc (e - at)) (take (suc (e - at)) D) ≡ [] = drop_of_length-le (take (suc (e - at)) D) short in
    let all : now ≡ v ∷ take (e - at) D =
    c.so ∙ ap (λ (m : ℕ). take k (v ∷ take m D) ++ drop k (take m D)) n
    ∙ ap (λ (m : ℕ). take m (v ∷ take (suc (e - at)) D) ++ drop m (take (suc (e - at)) D)) last
    ∙ ap (λ (x : List ℕ). (v ∷ take (e - at) (take (suc (e - at)) D)) ++ x) none
    ∙ append-nil (v ∷ take (e - at) (take (suc (e - at)) D))
    ∙ ap (λ (x : List ℕ). v ∷ x) (take-take (e - at) (suc (e - at)) D (omega arith)) in
    let rest : drop (e + 1 - at) D ≡ drop (e + 1) l = drop-drop (e + 1 - at) at l ∙ ap (λ (m : ℕ). drop m l) (omega arith) in
    rw (all, rest)

pub insert-full : (b : Filled) (at v : ℕ) → length b.bytes ≤ b.end → b ≡ inserted b at v
unfolding inserted
insert-full b at v r = sym (rw (le-ltb b.end (length b.bytes) r, B.and-false (leb at b.end)))

pub insert-behind : (b : Filled) (at v : ℕ) → b.end < at → b ≡ inserted b at v
unfolding inserted
insert-behind b at v r = sym (rw (lt-leb at b.end r))

pub ruleset carrying = (carried-none)

pub ruleset inserting = (insert-full, insert-behind)
