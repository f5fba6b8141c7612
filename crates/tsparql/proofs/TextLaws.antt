-- The decimal digits of a number, without the bound on how many there are: for code that writes them to cite. Assumes nothing.
use mathlib.Core.Path.{◌≡◌, refl}
use mathlib.Core.Bool.{Bool, true, false, cond}
use mathlib.Core.List.{[], ◌∷◌, ◌++◌}
use Prim.Native.Nat.{ℕ, zero, suc, ◌+◌, ◌/◌, ◌%◌, ◌<◌}
use native.Mathlib.Omega.{arith}
use borrow.Author.Tests.{ltb-false}
use lib.Dec.{ltb}
use Rattle.tsparql.specs.Strikes.{digits, decimal}

-- more digits than the number has are not written
digits-enough : (k m n : ℕ) → n < k → n < m → digits k n ≡ digits m n
unfolding digits
digits-enough zero m n h l = absurd (omega arith)
digits-enough (suc k) zero n h l = absurd (omega arith)
digits-enough (suc k) (suc m) n h l = go (ltb n 10) refl (λ e. digits-enough k m (n / 10) (omega (arith, e)) (omega (arith, e)))
  where
    go : (b : Bool) → ltb n 10 ≡ b → (10 < suc n → digits k (n / 10) ≡ digits m (n / 10))
        → cond b ((48 + n) ∷ []) (digits k (n / 10) ++ ((48 + n % 10) ∷ []))
        ≡ cond b ((48 + n) ∷ []) (digits m (n / 10) ++ ((48 + n % 10) ∷ []))
    go true e h = refl
    go false e h = rw (h (omega (arith, ltb-false n 10 e)))

-- one digit, or the digits of a tenth and one digit more
pub decimal_step : (n : ℕ) → decimal n ≡ cond (ltb n 10) ((48 + n) ∷ []) (decimal (n / 10) ++ ((48 + n % 10) ∷ []))
unfolding decimal digits
decimal_step n = go (ltb n 10) refl
  where
    go : (b : Bool) → ltb n 10 ≡ b
        → cond b ((48 + n) ∷ []) (digits n (n / 10) ++ ((48 + n % 10) ∷ []))
        ≡ cond b ((48 + n) ∷ []) (digits (suc (n / 10)) (n / 10) ++ ((48 + n % 10) ∷ []))
    go true e = refl
    go false e = rw (digits-enough n (suc (n / 10)) (n / 10) (omega (arith, ltb-false n 10 e)) (omega arith))
