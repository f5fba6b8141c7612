-- The lesser of trusts; bounds on trust: how a bound goes through the lesser of two trusts and through another bound. A known trust is
-- at most 1000 (Sound) in every row of a table that was checked; most laws ask it. Assumes nothing.
use mathlib.Core.Path.{◌≡◌, refl, sym, ap}
use mathlib.Core.Bool.{true, ◌&&◌, and-false, and_self}
use Prim.Native.Nat.{ℕ, ◌≤◌, min, max}
use native.Mathlib.Omega.{arith}
use borrow.Author.Tests.{leb-true, le-leb}
use lib.Dec.{leb}
use Rattle.tsparql.specs.Values.{Sound, Trust, known, unknown, lesser, inside}
use Rattle.tsparql.proofs.ListLaws.{and_left, and_right, and_both, test-eq}

pub sound-lesser : (s t : Trust) → Sound s → Sound t → Sound (lesser s t)
sound-lesser (known a) (known b) h k = omega arith
sound-lesser (known a) unknown h k = tt
sound-lesser unknown t h k = tt

-- one sound trust is enough
pub sound-lesser-right : (s t : Trust) → Sound t → Sound (lesser s t)
sound-lesser-right (known a) (known b) k = omega arith
sound-lesser-right (known a) unknown k = tt
sound-lesser-right unknown t k = tt

pub lesser-assoc : (a b c : Trust) → lesser a (lesser b c) ≡ lesser (lesser a b) c
lesser-assoc (known a) (known b) (known c) = ap known (omega arith)
lesser-assoc (known a) (known b) unknown = refl
lesser-assoc (known a) unknown c = refl
lesser-assoc unknown b c = refl

-- the lesser of a trust and the greatest
pub lesser-top : (t : Trust) → Sound t → lesser (known 2000) t ≡ t
lesser-top (known a) h = ap known (omega arith)
lesser-top unknown h = refl

pub lesser-comm-top : (t : Trust) → lesser t (known 2000) ≡ lesser (known 2000) t
lesser-comm-top (known a) = ap known (omega arith)
lesser-comm-top unknown = refl

-- ---- inside, as an order

inside-true : (l u t : ℕ) → inside l u (known t) ≡ true → (l ≤ t) × (t ≤ u)
inside-true l u t e =
    (leb-true l t (and_left (leb l t) (leb t u) e), leb-true t u (and_right (leb l t) (leb t u) e))

true-inside : (l u t : ℕ) → (l ≤ t) × (t ≤ u) → inside l u (known t) ≡ true
true-inside l u t h = and_both (le-leb l t h.0) (le-leb t u h.1)

-- a trust inside one bound is two trusts, each inside its own
module _ (l u a m w b n v c : ℕ) where
  abbrev Both : Type 0
  Both = ((m ≤ b) × (b ≤ w)) × ((n ≤ c) × (c ≤ v))

  inside_both : ((l ≤ a) × (a ≤ u) → Both) → (Both → (l ≤ a) × (a ≤ u))
      → inside l u (known a) ≡ inside m w (known b) && inside n v (known c)
  inside_both to fro =
      test-eq (inside l u (known a)) (inside m w (known b) && inside n v (known c))
      (λ e. let h = to (inside-true l u a e) in and_both (true-inside m w b h.0) (true-inside n v c h.1))
      (λ e. true-inside l u a
      (fro (
        inside-true m w b (and_left (inside m w (known b)) (inside n v (known c)) e),
        inside-true n v c (and_right (inside m w (known b)) (inside n v (known c)) e),
      )))

-- ---- the bounds of push

-- the lesser is inside (l, 1000) exactly if both are
pub inside-lesser : (l : ℕ) (s t : Trust) → Sound s → Sound t → inside l 2000 (lesser s t) ≡ inside l 2000 s && inside l 2000 t
inside-lesser l (known a) (known b) h k =
    inside_both l 2000 (min a b) l 2000 a l 2000 b (λ e. omega arith) (λ e. omega arith)
inside-lesser l (known a) unknown h k = sym (and-false (inside l 2000 (known a)))
inside-lesser l unknown t h k = refl

-- a bound in a bound
pub inside-meet : (l u m w : ℕ) (t : Trust) → inside (max l m) (min u w) t ≡ inside m w t && inside l u t
inside-meet l u m w (known t) = inside_both (max l m) (min u w) t m w t l u t (λ e. omega arith) (λ e. omega arith)
inside-meet l u m w unknown = refl

-- what is inside (l, u) is inside (l, 1000)
pub inside-floor : (l u : ℕ) (t : Trust) → Sound t → inside l u t ≡ inside l 2000 t && inside l u t
inside-floor l u (known t) h = inside_both l u t l 2000 t l u t (λ e. omega arith) (λ e. omega arith)
inside-floor l u unknown h = refl

-- and is the same where u is not below 1000
pub inside-high : (l u : ℕ) → 2000 ≤ u → (t : Trust) → Sound t → inside l 2000 t ≡ inside l u t
inside-high l u k (known t) h =
    rw (inside_both l 2000 t l u t l u t (λ e. omega arith) (λ e. omega arith)) (and_self (inside l u (known t)))
inside-high l u k unknown h = refl

-- a merge is inside (l, u) only if its left row is inside (l, 1000)
pub inside-left : (l u : ℕ) (s t : Trust) → Sound s → Sound t
    → inside l u (lesser s t) ≡ inside l 2000 s && inside l u (lesser s t)
inside-left l u (known a) (known b) h k =
    inside_both l u (min a b) l 2000 a l u (min a b) (λ e. omega arith) (λ e. omega arith)
inside-left l u (known a) unknown h k = sym (and-false (inside l 2000 (known a)))
inside-left l u unknown t h k = refl
