-- The mean as an aggregate (request 4): of sound records it is at most 1000 (`mean-sound`), so every law over sound aggregates holds for
-- both choices (`aggregate-sound`); it is the quotient of sum and number, rounded down to a whole thousandth (`mean-floor`), wherever
-- trusts are counted from (`quotient-shift`); of records of a checked table, distinct ones are those with distinct numbers
-- (`mean-numbers`). That it is one of graphs is in GraphLaws. Assumes nothing.
use mathlib.Core.Path.{◌≡◌, sym, ap}
use mathlib.Core.Bool.{Bool, true, false, not, cond}
use mathlib.Core.List.{List, [], ◌∷◌, map}
use Prim.Native.Nat.{ℕ, zero, suc, ◌+◌, ◌*◌, ◌/◌, ◌≤◌, ◌<◌, zero-le}
use native.Mathlib.Nat.{le_refl, zero-lt-suc, div-le_of_le-mul, mul-div-le, lt-mul-div-succ, add-mul-div_right}
use native.Mathlib.Omega.{arith}
use lib.Dec.{eqb}
use lib.ListN.{length}
use Rattle.tsparql.specs.Lists.{Every, keep_if, all_pass, distinct_by, sum_over}
use Rattle.tsparql.specs.Values.{Trust, known, unknown, is_known, trust_number, Sound}
use Rattle.tsparql.specs.Table.{Fact, same_triple, record_length, record_at, fact_of}
use Rattle.tsparql.specs.PatternSets.{distinct_records, quotient, mean_once, mean, Aggregation, by_least, by_mean, aggregate}
use Rattle.tsparql.specs.PatternSets.{SoundFact, SoundAggregate}
use Rattle.tsparql.specs.Check.{Passes, table_refusal}
use Rattle.tsparql.proofs.SumLaws.{every-distinct}
use Rattle.tsparql.proofs.ChoiceLaws.{least-sound}
use Rattle.tsparql.proofs.TableLaws.{distinct-numbers}

-- the trust of a record, plus 1000
abbrev pub fact_number : Fact → ℕ
fact_number f = trust_number f.trust

-- ---- the bound

trust_number-≤ : (t : Trust) → Sound t → trust_number t ≤ 2000
trust_number-≤ (known a) h = h
trust_number-≤ unknown h = zero-le

-- the sum of n sound trusts is at most n times 2000
pub sum-≤ : (fs : List Fact) → Every SoundFact fs → sum_over fs fact_number ≤ length fs * 2000
sum-≤ [] e = le_refl 0
sum-≤ (f ∷ fs) e = omega (arith, trust_number-≤ f.trust e.0, sum-≤ fs e.1)

quotient-≤ : (s n : ℕ) → s ≤ n * 2000 → quotient s n ≤ 2000
quotient-≤ s zero h = le_refl 2000
quotient-≤ s (suc n) h = div-le_of_le-mul (suc n) h

cond-sound : (b : Bool) (m : ℕ) → m ≤ 2000 → Sound (cond b (known m) unknown)
cond-sound true m h = h
cond-sound false m h = tt

mean_once-sound : SoundAggregate mean_once
mean_once-sound fs e =
    cond-sound (all_pass (λ f. is_known f.trust) fs) (quotient (sum_over fs fact_number) (length fs))
    (quotient-≤ (sum_over fs fact_number) (length fs) (sum-≤ fs e))

pub mean-sound : SoundAggregate mean
unfolding mean
mean-sound fs e = mean_once-sound (distinct_records fs) (every-distinct same_triple SoundFact fs e)

-- both choices
pub aggregate-sound : (g : Aggregation) → SoundAggregate (aggregate g)
aggregate-sound by_least = least-sound
aggregate-sound by_mean = mean-sound

-- ---- the quotient

floor : (b : Bool) (s n m : ℕ) → cond b (known (quotient s (suc n))) unknown ≡ known m → (suc n * m ≤ s) × (s < suc n * (m + 1))
floor true s n m e =
    let is : s / suc n ≡ m = ap trust_number e in rw (sym is) (mul-div-le s (suc n), lt-mul-div-succ s (zero-lt-suc n))
floor false s n m e = absurd (let no : ◌≡◌ {A = ℕ} 0 1 = cc in omega arith)

-- a known mean m of some records: with n distinct ones, whose trusts have the sum s, it is the greatest with n * m at most s
pub mean-floor : (f : Fact) (fs : List Fact) (m : ℕ) → mean (f ∷ fs) ≡ known m
    → let ds = distinct_records (f ∷ fs) in
    (length ds * m ≤ sum_over ds fact_number) × (sum_over ds fact_number < length ds * (m + 1))
unfolding mean
mean-floor f fs m e =
    let ds = distinct_records (f ∷ fs) in
    let others = keep_if (λ h. not (same_triple f h)) (distinct_records fs) in
    floor (all_pass (λ h. is_known h.trust) ds) (sum_over ds fact_number) (length others) m e

-- n trusts that stand k higher have a quotient that does: rounding down is the same wherever trusts are counted from
pub quotient-shift : (s k n : ℕ) → quotient (s + k * suc n) (suc n) ≡ quotient s (suc n) + k
quotient-shift s k n = add-mul-div_right s k (zero-lt-suc n)

-- ---- records of a checked table

-- distinct ones are those with distinct numbers
pub mean-numbers : (t : List ℕ) → Passes (table_refusal t) → (is : List ℕ) → Every (λ i. i < length t / record_length) is
    → mean (map (λ i. fact_of (record_at t i)) is) ≡ mean_once (map (λ i. fact_of (record_at t i)) (distinct_by eqb is))
unfolding mean
mean-numbers t z is e = ap mean_once (distinct-numbers t z is e)
