-- How much of a word a text begins with: the bytes that they share (`common-shared`), and the comparison with a token that they decide
-- (`compared-..`). Assumes nothing.
use mathlib.Core.Bool.{cond}
use mathlib.Core.Path.{ap, ◌≡◌, refl, sym, ◌∙◌, subst}
use mathlib.Core.List.{List, [], ◌∷◌}
use Prim.Native.Nat.{ℕ, ◌≤◌, ◌<◌}
use native.Mathlib.Omega.{arith}
use Rattle.std.specs.List.{prefix_len, zip}
use lib.Dec.{eqb, ltb}
use lib.ListN.{length}
use borrow.Author.Tests.{ltb-true, ltb-false, lt-ltb, le-ltb}
use Rattle.grammar.proofs.Basics.{cond_cases}
use Rattle.scanner.specs.Scans.{common}
use Rattle.scanner.specs.Fixed.{compared}
use Rattle.refusals.specs.declared.Fault.{Fault}
use Rattle.std.proofs.Common.{Result, Ok, Err}

-- it is no more than either
pub common-within : (w t : List ℕ) → (common w t ≤ length w) × (common w t ≤ length t)
common-within [] t = (omega arith, omega arith)
common-within (c ∷ w) [] = (omega arith, omega arith)
common-within (c ∷ w) (b ∷ t) =
    let h = common-within w t in
    cond_cases (λ (n : ℕ). (n ≤ length (c ∷ w)) × (n ≤ length (b ∷ t))) (eqb b c)
    (λ e. (omega arith, omega arith)) (λ e. (omega arith, omega arith))

-- what a text and a word share
pub common-shared : (w t : List ℕ) → prefix_len (λ (p : ℕ × ℕ). eqb p.0 p.1) (zip t w) ≡ common w t
common-shared [] [] = refl
common-shared [] (b ∷ t) = refl
common-shared (c ∷ w) [] = refl
common-shared (c ∷ w) (b ∷ t) =
    let more = common-shared w t in
    ap (λ (n : ℕ). cond (eqb b c) n 0) (omega (arith, more))

-- ---- the comparison

pub compared-part :
    (w t : List ℕ) (n : ℕ) → n ≡ prefix_len (λ p. eqb p.0 p.1) (zip t w) → n < length w → Err (record { 0 = n }) ≡ compared w t
compared-part w t n q h =
    let e = q ∙ common-shared w t in
    rw (lt-ltb (common w t) (length w) (omega arith), e)

pub compared_whole : (w t : List ℕ) (n : ℕ) → n ≡ prefix_len (λ p. eqb p.0 p.1) (zip t w) → length w ≤ n → Ok n ≡ compared w t
compared_whole w t n q h =
    let e = q ∙ common-shared w t in
    rw (le-ltb (common w t) (length w) (omega arith), e)

pub ruleset comparing = (compared-part, compared_whole)

-- what its answer says
abbrev pub Says : List ℕ → List ℕ → Result ℕ Fault → Type 0
Says w t (Ok n) = (n ≡ common w t) × (common w t ≡ length w)
Says w t (Err f) = (f.0 ≡ common w t) × (common w t < length w)

pub compared-says : (w t : List ℕ) (k answer : Result ℕ Fault) → k ≡ compared w t → k ≡ answer → Says w t answer
compared-says w t k answer e q = subst (Says w t) (sym e ∙ q) says
  where
    says : Says w t (compared w t)
    says =
        cond_cases (Says w t) (ltb (common w t) (length w))
        (λ less. (refl, ltb-true (common w t) (length w) less))
        (λ all. (refl, omega (arith, (common-within w t).0, ltb-false (common w t) (length w) all)))
