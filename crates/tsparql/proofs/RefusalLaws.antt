-- Refusals: which of two applies, and what is known where none does. Assumes nothing.
use mathlib.Core.Path.{◌≡◌, refl}
use mathlib.Core.Bool.{Bool, true, false, cond}
use Prim.Native.Nat.{ℕ, ◌≤◌}
use native.Mathlib.Omega.{arith}
use borrow.Author.Tests.{eqb-true, eqb-false, eq-eqb, ne_eqb}
use Rattle.tsparql.specs.Check.{Passes, Refusal, refuse, no_refusal, refuse_if, passes, or_else}

-- the first applies
pub or_else-first : (r s : Refusal) → (Passes r → ⊥) → or_else r s ≡ r
or_else-first r s h = rw (ne_eqb r.number 0 h)

-- it does not
pub or_else-second : (r s : Refusal) → Passes r → or_else r s ≡ s
or_else-second r s h = rw (eq-eqb r.number 0 h)

-- one of the two
pub or_else-cases : (P : Refusal → Type 0) (r s : Refusal) → P r → P s → P (or_else r s)
or_else-cases P r s h k = go (passes r)
  where
    go : (b : Bool) → P (cond b s r)
    go true = k
    go false = h

-- neither of two applies
pub or_else-passes : (r s : Refusal) → Passes (or_else r s) → Passes r × Passes s
or_else-passes r s z = go (passes r) refl z
  where
    go : (b : Bool) → passes r ≡ b → Passes (cond b s r) → Passes r × Passes s
    go true e w = (eqb-true r.number 0 e, w)
    go false e w = absurd (eqb-false r.number 0 e w)

-- a refusal with a number applies
pub refuse-applies : (n p : ℕ) → 1 ≤ n → Passes (refuse n p) → ⊥
refuse-applies n p h z = let e : n ≡ 0 = z in omega arith

-- a test's refusal does not apply: the test failed
pub refuse_if-passes : (b : Bool) (n p : ℕ) → 1 ≤ n → Passes (refuse_if b n p) → b ≡ false
refuse_if-passes true n p h z = absurd (let e : n ≡ 0 = z in omega arith)
refuse_if-passes false n p h z = refl

-- what holds of the refusal and of none
pub refuse_if-cases : (P : Refusal → Type 0) (b : Bool) (n p : ℕ) → (b ≡ true → P (refuse n p)) → P no_refusal → P (refuse_if b n p)
refuse_if-cases P true n p h k = h refl
refuse_if-cases P false n p h k = k
