-- Laws of places: a part of a slice is what drop leaves; what was read, by what was made of it; a number by its cases; what is read in
-- parts; operands one behind the other; places inside; a walk over operands. Assumes nothing.
use mathlib.Core.Path.{◌≡◌, refl, sym, ap, subst, ◌∙◌}
use mathlib.Core.Bool.{Bool, true, false, cond}
use mathlib.Core.List.{List}
use Prim.Native.Nat.{ℕ, zero, suc, ◌+◌, ◌-◌, ◌≤◌, ◌<◌}
use native.Mathlib.Omega.{arith}
use borrow.Author.Tests.{ne_eqb}
use lib.Dec.{eqb}
use lib.ListN.{length, take, drop, length-drop}
use Rattle.tsparql.specs.Reading.{Read, got, fault, and_then, require}
pub use Rattle.tsparql.proofs.ListLaws.{part-drop}
use Rattle.tsparql.proofs.WrittenRead.{Reads}
use Rattle.query.specs.Parts.{map_read, shift, follow}
use Rattle.heads.specs.Answers.{fault_in}

-- what was read of the part of a slice from a place on was read of what drop leaves
pub on-part : {A : Type 0} (f : List ℕ → A) (s : List ℕ) (at : ℕ) {r : A} → r ≡ f (take (length s - at) (drop at s)) → f (drop at s) ≡ r
on-part f s at e = sym (e ∙ ap f (part-drop s at))

-- a fault is no find
pub fault-not-got : {A : Type 0} {a : A} {n p : ℕ} → ◌≡◌ {A = Read A} (fault p) (got a n) → ⊥
fault-not-got e = let z : ◌≡◌ {A = ℕ} 0 1 = cc in omega arith

-- what was read, by what was made of it
module _ {A B : Type 0} (f : A → B) where
  pub made_fault : (r : Read A) (p : ℕ) → map_read f r ≡ fault p → r ≡ fault p
  made_fault (got a n) p e = absurd (fault-not-got (sym e))
  made_fault (fault q) p e = let same : q ≡ p = cc in ap fault same

  pub made_got : (r : Read A) (b : B) (n : ℕ) → map_read f r ≡ got b n → (a : A) × (r ≡ got a n) × (f a ≡ b)
  made_got (got a m) b n e = let same : m ≡ n = cc in (a, ap (got a) same, cc)
  made_got (fault q) b n e = absurd (fault-not-got e)

  -- the same for a statement about what was read
  pub made_by : (P : Read A → Type 0) (r : Read A) (b : B) (n : ℕ) → map_read f r ≡ got b n → ((a : A) → f a ≡ b → P (got a n)) → P r
  made_by P r b n e k = let x = made_got r b n e in subst P (sym x.1) (k x.0 x.2)

-- the place of what was found, fault or not
abbrev pub place_of : {A : Type 0} → Read A → ℕ
place_of (got a n) = n
place_of (fault p) = p

pub place_of-map : {A B : Type 0} (f : A → B) (r : Read A) → place_of (map_read f r) ≡ place_of r
place_of-map f (got a n) = refl
place_of-map f (fault p) = refl

pub fault_in-≤ : {A : Type 0} (r : Read A) → fault_in r ≤ place_of r
fault_in-≤ (got a n) = omega arith
fault_in-≤ (fault p) = omega arith

-- a number is one of 0 to 7, or above
pub by_kind : {P : Type 0} (k : ℕ) → (k ≡ 0 → P) → (k ≡ 1 → P) → (k ≡ 2 → P) → (k ≡ 3 → P) → (k ≡ 4 → P) → (k ≡ 5 → P)
    → (k ≡ 6 → P) → (k ≡ 7 → P) → (8 ≤ k → P) → P
by_kind zero a b c d e f g h i = a refl
by_kind (suc zero) a b c d e f g h i = b refl
by_kind (suc (suc zero)) a b c d e f g h i = c refl
by_kind (suc (suc (suc zero))) a b c d e f g h i = d refl
by_kind (suc (suc (suc (suc zero)))) a b c d e f g h i = e refl
by_kind (suc (suc (suc (suc (suc zero))))) a b c d e f g h i = f refl
by_kind (suc (suc (suc (suc (suc (suc zero)))))) a b c d e f g h i = g refl
by_kind (suc (suc (suc (suc (suc (suc (suc zero))))))) a b c d e f g h i = h refl
by_kind (suc (suc (suc (suc (suc (suc (suc (suc k)))))))) a b c d e f g h i = i (omega arith)

-- and none of the numbers below it
pub no_kind : {k n : ℕ} → n ≤ k → (i : ℕ) → i < n → eqb k i ≡ false
no_kind {k} h i l = ne_eqb k i (λ z. omega arith)

-- what holds of both branches
module _ {A : Type 0} (P : Read A → Type 0) where
  pub cond_cases : (b : Bool) (x y : Read A) → (b ≡ true → P x) → (b ≡ false → P y) → P (cond b x y)
  cond_cases true x y f g = f refl
  cond_cases false x y f g = g refl

  pub require-cases : (b : Bool) (r : Read A) → P (fault 0) → (b ≡ true → P r) → P (require b r)
  require-cases true r z f = f refl
  require-cases false r z f = z

-- what is read in parts: a head, and then what its operands leave
module _ {H : Type 0} (X head_r : Read H) (ops : H → ℕ → Read (Unit {0}))
    (parts : X ≡ follow head_r (λ h own. map_read (λ _. h) (ops h own))) where
  pub head-fault : (p : ℕ) → head_r ≡ fault p → X ≡ fault p
  head-fault p e = parts ∙ rw e

  pub operands-fault : (h : H) (own p : ℕ) → head_r ≡ got h own → ops h own ≡ fault p → X ≡ fault p
  operands-fault h own p d e = parts ∙ rw (d, e)

  pub operands-got : (h : H) (own n : ℕ) → head_r ≡ got h own → ops h own ≡ got tt n → X ≡ got h n
  operands-got h own n d e = parts ∙ rw (d, e)

-- ---- operands one behind the other

-- the head of what is made of one operand, or of two, is known before they are read
module _ {A H : Type 0} (head : A → H) (h : H) where
  pub one-part : (at : ℕ) (f : A → A) → ((a : A) → head (f a) ≡ h) → (r : Read A)
      → map_read head (and_then at r (λ a next. got (f a) next)) ≡ map_read (λ _. h) (follow (shift at r) (λ a mid. got (tt {0}) mid))
  one-part at f e (got a n) = rw (e a)
  one-part at f e (fault p) = refl

  pub two-parts : (read : ℕ → Read A) (at : ℕ) (f : A → A → A) → ((a b : A) → head (f a b) ≡ h) → (r : Read A)
      → map_read head (and_then at r (λ a mid. and_then mid (read mid) (λ b next. got (f a b) next)))
      ≡ map_read (λ _. h) (follow (shift at r) (λ a mid. follow (shift mid (read mid)) (λ b last. got (tt {0}) last)))
  two-parts read at f e (got a n) = one-part (at + n) (f a) (e a) (read (at + n))
  two-parts read at f e (fault p) = refl

-- the next of n operands faults, or leaves those behind it
module _ {A B : Type 0} (f : A → B) (read : List ℕ → Read A) (from : ℕ → ℕ → List ℕ → Read (Unit {0}))
    (step : (n at : ℕ) (s : List ℕ) → from (suc n) at s ≡ follow (shift at (read (drop at s))) (λ a mid. from n mid s)) where
  pub from-fault : (s : List ℕ) (n at p : ℕ) → 1 ≤ n → map_read f (read (drop at s)) ≡ fault p → from n at s ≡ fault (at + p)
  from-fault s zero at p l e = absurd (omega arith)
  from-fault s (suc n) at p l e = step n at s ∙ rw (made_fault f (read (drop at s)) p e)

  pub from_next : (s : List ℕ) (n at k : ℕ) (h : B) → 1 ≤ n → map_read f (read (drop at s)) ≡ got h k
      → from n at s ≡ from (n - 1) (at + k) s
  from_next s zero at k h l e = absurd (omega arith)
  from_next s (suc n) at k h l e =
      let one : suc n - 1 ≡ n = omega arith in
      rw one (step n at s ∙ rw (made_got f (read (drop at s)) h k e).1)

-- ---- places inside

-- a reader that is sound stays inside its part
pub reads-inside : {A : Type 0} (F : A → Type 0) (write : A → List ℕ) (s : List ℕ) (r : Read A) → Reads F write s r
    → place_of r ≤ length s
reads-inside F write s (got a n) h = h.1.inside
reads-inside F write s (fault p) h = h

-- the place of what was read from a place on is inside the whole
pub place-part : {A B : Type 0} (f : A → B) (read : List ℕ → Read A) → ((s : List ℕ) → place_of (read s) ≤ length s)
    → (s : List ℕ) (at : ℕ) (r : Read B) → r ≡ map_read f (read (take (length s - at) (drop at s))) → at ≤ length s
    → at + place_of r ≤ length s
place-part f read inside s at r e l =
    let here : r ≡ map_read f (read (drop at s)) = e ∙ rw (part-drop s at) in
    rw (here, place_of-map f (read (drop at s))) (omega (arith, inside (drop at s), length-drop at s))

-- ---- a walk over operands

-- of n operands from a place on c are passed, and the others begin at `place`, in the part and not at its front
pub record OperandsPassed (from : ℕ → ℕ → List ℕ → Read (Unit {0})) (s : List ℕ) (n at c place : ℕ) : Type 0 where
  pub left : from n at s ≡ from (n - c) place s
  pub some : 1 ≤ place
  pub inside : place ≤ length s

module _ {from : ℕ → ℕ → List ℕ → Read (Unit {0})} {s : List ℕ} {n at c place : ℕ} (w : OperandsPassed from s n at c place) where
  -- none is left
  pub operands-over : ((s : List ℕ) (at : ℕ) → from 0 at s ≡ got tt at) → n ≤ c → got tt place ≡ from n at s
  operands-over none l =
      let all : n - c ≡ 0 = omega arith in
      sym (w.left ∙ ap (λ m. from m place s) all ∙ none s place)

  module _ {A B : Type 0} (f : A → B) (read : List ℕ → Read A) where
    -- the next one, read of the part from there on
    abbrev Next : Read B → Type 0
    Next r = r ≡ map_read f (read (take (length s - place) (drop place s)))

    -- it faults, and so do all
    pub operand-faults :
        ((s : List ℕ) (n at p : ℕ) → 1 ≤ n → map_read f (read (drop at s)) ≡ fault p → from n at s ≡ fault (at + p))
        → (p : ℕ) → c < n → Next (fault p) → fault (place + p) ≡ from n at s
    operand-faults faults p l e =
        sym (w.left ∙ faults s (n - c) place p (omega arith) (on-part (λ q. map_read f (read q)) s place e))

    -- it is passed
    pub operand-passed :
        ((s : List ℕ) (n at k : ℕ) (h : B) → 1 ≤ n → map_read f (read (drop at s)) ≡ got h k → from n at s ≡ from (n - 1) (at + k) s)
        → ((s : List ℕ) → place_of (read s) ≤ length s)
        → (h : B) (k : ℕ) → c < n → Next (got h k) → OperandsPassed from s n at (c + 1) (place + k)
    operand-passed next sound h k l e =
        let here = on-part (λ q. map_read f (read q)) s place e in
        let fewer : n - c - 1 ≡ n - (c + 1) = omega arith in
        record {
          left = w.left ∙ next s (n - c) place k h (omega arith) here ∙ ap (λ m. from m (place + k) s) fewer;
          some = omega (arith, w.some);
          inside = place-part f read sound s place (got h k) e w.inside;
        }
