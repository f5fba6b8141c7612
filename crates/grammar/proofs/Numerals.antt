-- Numbers digit by digit: what `decimal` writes is what is read from the left, one digit after the other. For the machine, which reads
-- so. Groups: digits from the left (`Digits`, `Numeral`); what they have to do with `decimal`; tokens (`Spells`). Assumes nothing.
use mathlib.Core.Path.{◌≡◌, refl, sym, ap, ◌∙◌, subst, subst⁻¹}
use mathlib.Core.Bool.{Bool, true, false}
use mathlib.Core.List.{List, [], ◌∷◌, ◌++◌, append_assoc, append-nil}
use Prim.Native.Nat.{ℕ, zero, suc, ◌+◌, ◌*◌, ◌-◌, ◌/◌, ◌%◌, ◌≤◌, ◌<◌}
use native.Mathlib.Omega.{arith}
use native.Mathlib.Nat.{le_refl}
use lib.Dec.{ltb}
use borrow.Author.Tests.{ltb-true, ltb-false, lt-ltb, le-ltb}
use Rattle.tsparql.specs.Strikes.{ascii, decimal}
use Rattle.tsparql.proofs.TextLaws.{decimal_step}
use Rattle.grammar.specs.Tokens.{Token, mark, var, num, neg, spelling}

-- ---- digits from the left

-- a digit, by its byte
pub record IsDigit (b : ℕ) : Type 0 where
  pub least : 48 ≤ b
  pub most : b ≤ 57

-- the digits w, read on from the value v, give n; none follows a leading 0
pub data Digits : ℕ → List ℕ → ℕ → Type 0 where
  none : {v : ℕ} → Digits v [] v
  more : {v n : ℕ} {w : List ℕ} (b : ℕ) → 1 ≤ v → IsDigit b → Digits (v * 10 + (b - 48)) w n → Digits v (b ∷ w) n

-- w is how n is written
pub data Numeral : ℕ → List ℕ → Type 0 where
  numeral : {n : ℕ} {w : List ℕ} (b : ℕ) → IsDigit b → Digits (b - 48) w n → Numeral n (b ∷ w)

pub digits-grow : {v n : ℕ} {w : List ℕ} → Digits v w n → v ≤ n
digits-grow {v} none = le_refl v
digits-grow (more b l d r) = let h = digits-grow r in omega arith

-- nothing follows a leading 0
pub no-leading : {n : ℕ} {w : List ℕ} → Digits 0 w n → (n ≡ 0) × (w ≡ [])
no-leading none = (refl, refl)
no-leading (more b l d r) = absurd (omega arith)

-- ---- decimal

decimal-small : (n : ℕ) → n < 10 → decimal n ≡ (48 + n) ∷ []
decimal-small n h = decimal_step n ∙ rw (lt-ltb n 10 h)

decimal-more : (v d : ℕ) → 1 ≤ v → d ≤ 9 → decimal (v * 10 + d) ≡ decimal v ++ ((48 + d) ∷ [])
decimal-more v d l h =
    let tenth : (v * 10 + d) / 10 ≡ v = omega arith in
    let last : (v * 10 + d) % 10 ≡ d = omega arith in
    decimal_step (v * 10 + d) ∙ rw (le-ltb (v * 10 + d) 10 (omega arith), tenth, last)

digits_decimal : {v n : ℕ} {w : List ℕ} → Digits v w n → decimal n ≡ decimal v ++ w
digits_decimal {v} none = sym (append-nil (decimal v))
digits_decimal {v} (more {w = w} b l d r) =
    let back : 48 + (b - 48) ≡ b = let h = d.least in omega arith in
    let small : b - 48 ≤ 9 = let h = d.most in omega arith in
    digits_decimal r ∙ ap (λ (x : List ℕ). x ++ w) (decimal-more v (b - 48) l small ∙ ap (λ (x : ℕ). decimal v ++ (x ∷ [])) back)
    ∙ append_assoc (decimal v) (b ∷ []) w

-- a number is written in one way
pub numeral-decimal : {n : ℕ} {w : List ℕ} → Numeral n w → w ≡ decimal n
numeral-decimal (numeral {w = w} b d r) =
    let back : 48 + (b - 48) ≡ b = let h = d.least in omega arith in
    let small : b - 48 < 10 = let h = d.most in omega arith in
    sym (digits_decimal r ∙ ap (λ (x : List ℕ). x ++ w) (decimal-small (b - 48) small ∙ ap (λ (x : ℕ). x ∷ []) back))

last-digit : (d : ℕ) → d ≤ 9 → IsDigit (48 + d)
last-digit d h = record { least = omega arith; most = omega arith }

digits_more : {v n : ℕ} {w : List ℕ} (d : ℕ) → 1 ≤ n → d ≤ 9 → Digits v w n → Digits v (w ++ ((48 + d) ∷ [])) (n * 10 + d)
digits_more {v} d l h none =
    let back : d ≡ 48 + d - 48 = omega arith in
    more (48 + d) l (last-digit d h) (subst (λ (x : ℕ). Digits (v * 10 + x) [] (v * 10 + d)) back none)
digits_more d l h (more b k i r) = more b k i (digits_more d l h r)

numeral-more : {n : ℕ} {w : List ℕ} (d : ℕ) → 1 ≤ n → d ≤ 9 → Numeral n w → Numeral (n * 10 + d) (w ++ ((48 + d) ∷ []))
numeral-more d l h (numeral b i r) = numeral b i (digits_more d l h r)

decimal-numeral-below : (k n : ℕ) → n < k → Numeral n (decimal n)
decimal-numeral-below zero n h = absurd (omega arith)
decimal-numeral-below (suc k) n h = split (ltb n 10) refl (λ l. decimal-numeral-below k (n / 10) l)
  where
    split : (b : Bool) → ltb n 10 ≡ b → (n / 10 < k → Numeral (n / 10) (decimal (n / 10))) → Numeral n (decimal n)
    split true e ih =
        let small = ltb-true n 10 e in
        let back : n ≡ 48 + n - 48 = omega arith in
        subst⁻¹ (Numeral n) (decimal-small n small)
        (numeral (48 + n) (last-digit n (omega arith)) (subst (λ (x : ℕ). Digits x [] n) back none))
    split false e ih =
        let large = ltb-false n 10 e in
        let whole : n ≡ n / 10 * 10 + n % 10 = omega arith in
        let some : 1 ≤ n / 10 = omega arith in
        let digit : n % 10 ≤ 9 = omega arith in
        subst⁻¹ (λ (m : ℕ). Numeral m (decimal m)) whole
        (subst⁻¹ (Numeral (n / 10 * 10 + n % 10)) (decimal-more (n / 10) (n % 10) some digit)
        (numeral-more (n % 10) some digit (ih (omega arith))))

-- and `decimal` is this way
pub decimal-numeral : (n : ℕ) → Numeral n (decimal n)
decimal-numeral n = decimal-numeral-below (suc n) n (le_refl (suc n))

-- ---- tokens

-- u is how the token is written, digit by digit
pub data Spells : Token → List ℕ → Type 0 where
  of_mark : {w : List ℕ} → Spells (mark w) w
  of_var : {n : ℕ} {w : List ℕ} → Numeral n w → Spells (var n) (63 ∷ w)
  of_num : {n : ℕ} {w : List ℕ} → Numeral n w → Spells (num n) w
  of_neg : {n : ℕ} {w : List ℕ} → Numeral n w → Spells (neg n) (45 ∷ w)

pub spells-spelling : {t : Token} {u : List ℕ} → Spells t u → u ≡ spelling t
unfolding ascii
spells-spelling of_mark = refl
spells-spelling (of_var h) = ap (λ (w : List ℕ). 63 ∷ w) (numeral-decimal h)
spells-spelling (of_num h) = numeral-decimal h
spells-spelling (of_neg h) = ap (λ (w : List ℕ). 45 ∷ w) (numeral-decimal h)

pub spelling-spells : (t : Token) → Spells t (spelling t)
unfolding ascii
spelling-spells (mark w) = of_mark
spelling-spells (var n) = of_var (decimal-numeral n)
spelling-spells (num n) = of_num (decimal-numeral n)
spelling-spells (neg n) = of_neg (decimal-numeral n)
