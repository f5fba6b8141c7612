-- What the check of a table gives: every record is sound and above the one before it; so every fact that a view shows has a trust of
-- at most 1000, and no triple stands twice in the whole table. Groups: records; the refusals; facts; facts rise; one triple is one record
-- (`distinct-numbers`). Assumes nothing.
use mathlib.Core.Path.{◌≡◌, refl, sym, ap, ◌∙◌}
use mathlib.Core.Bool.{Bool, true, false, ◌&&◌, ◌||◌, not, cond}
use mathlib.Core.List.{List, [], ◌∷◌, map}
use Prim.Native.Nat.{ℕ, zero, suc, ◌+◌, ◌*◌, ◌/◌, ◌%◌, ◌^◌, ◌≤◌, ◌<◌}
use native.Mathlib.Nat.{le_refl, add-zero}
use native.Mathlib.Omega.{arith}
use borrow.Author.Tests.{leb-true, eqb-true, eq-eqb, ltb-true, ltb-false, not-false}
use lib.Dec.{eqb, leb, ltb}
use lib.ListN.{length, drop_of_length-le}
use Rattle.tsparql.specs.PatternSets.{SoundFact, distinct_records}
use Rattle.tsparql.specs.Lists.{Every, distinct_by, concat_map, up_from}
use Rattle.tsparql.specs.Values.{Sound, known, unknown}
use Rattle.tsparql.specs.Table.{Fact, big_endian, record_length, record_at, known_bit, trust_field, trust_of, fact_of, terms_nonzero}
use Rattle.tsparql.specs.Table.{trust_sound, record_sound, same_triple, below, View, whole_table, fact_at, facts_in}
use Rattle.tsparql.specs.Check.{Refusal, refuse, no_refusal, refuse_if, Passes, or_else}
use Rattle.tsparql.specs.Check.{record_limit, rises, record_refusal, records_refusal, table_refusal}
use Rattle.tsparql.proofs.ListLaws.{and_left, and_right, and_both, and-three, test-eq, every_of, every-concat_map}
use Rattle.tsparql.proofs.SumLaws.{distinct-cong, distinct-map}
use Rattle.tsparql.proofs.RefusalLaws.{or_else-cases, or_else-passes, refuse_if-passes, refuse_if-cases}

-- ---- records

-- what the check says of record i
pub record RecordChecked (t : List ℕ) (i : ℕ) : Type 0 where
  pub sound : record_sound (record_at t i) ≡ true
  pub rising : rises t i ≡ true

record_refusal-passes : (t : List ℕ) (i : ℕ) → Passes (record_refusal t i) → RecordChecked t i
unfolding record_refusal
record_refusal-passes t i z =
    let unsound = not (record_sound (record_at t i)) in
    let h = or_else-passes (refuse_if unsound 3 i) (refuse_if (not (rises t i)) 4 i) z in
    record {
      sound = not-false (record_sound (record_at t i)) (refuse_if-passes unsound 3 i (omega arith) h.0);
      rising = not-false (rises t i) (refuse_if-passes (not (rises t i)) 4 i (omega arith) h.1);
    }

records_refusal-passes : (t : List ℕ) (i n : ℕ) → Passes (records_refusal t i n) → (k : ℕ) → k < n → RecordChecked t (i + k)
unfolding records_refusal
records_refusal-passes t i zero z k h = absurd (omega arith)
records_refusal-passes t i (suc n) z zero h =
    rw (add-zero i) (record_refusal-passes t i (or_else-passes (record_refusal t i) (records_refusal t (suc i) n) z).0)
records_refusal-passes t i (suc n) z (suc k) h =
    let later = (or_else-passes (record_refusal t i) (records_refusal t (suc i) n) z).1 in
    let next : i + suc k ≡ suc i + k = omega arith in
    rw next (records_refusal-passes t (suc i) n later k (omega arith))

-- what the check says of a table
pub record TableChecked (t : List ℕ) : Type 0 where
  pub whole : length t % record_length ≡ 0
  pub few : length t / record_length ≤ record_limit
  pub records : (i : ℕ) → i < length t / record_length → RecordChecked t i

pub table-checked : (t : List ℕ) → Passes (table_refusal t) → TableChecked t
unfolding table_refusal
table-checked t z =
    let n = length t / record_length in
    let broken = not (eqb (length t % record_length) 0) in
    let most = refuse_if (ltb record_limit n) 2 0 in
    let h = or_else-passes (refuse_if broken 1 0) (or_else most (records_refusal t 0 n)) z in
    let k = or_else-passes most (records_refusal t 0 n) h.1 in
    let e = not-false (eqb (length t % record_length) 0) (refuse_if-passes broken 1 0 (omega arith) h.0) in
    let f = refuse_if-passes (ltb record_limit n) 2 0 (omega arith) k.0 in
    record {
      whole = eqb-true (length t % record_length) 0 e;
      few = ltb-false record_limit n f;
      records = λ i l. let zero-plus : 0 + i ≡ i = omega arith in rw zero-plus at (records_refusal-passes t 0 n k.1 i l);
    }

-- ---- the refusals of a table: 1 and 2 at 0, 3 and 4 at a record

record_refusal-cases : (P : Refusal → Type 0) (t : List ℕ) (i : ℕ) → P no_refusal → P (refuse 3 i) → P (refuse 4 i) → P (record_refusal t i)
unfolding record_refusal
record_refusal-cases P t i n h k =
    let unsound = not (record_sound (record_at t i)) in
    or_else-cases P (refuse_if unsound 3 i) (refuse_if (not (rises t i)) 4 i)
    (refuse_if-cases P unsound 3 i (λ _. h) n) (refuse_if-cases P (not (rises t i)) 4 i (λ _. k) n)

records_refusal-cases : (P : Refusal → Type 0) (t : List ℕ) (i n : ℕ) → P no_refusal
    → ((k : ℕ) → k < i + n → P (refuse 3 k) × P (refuse 4 k)) → P (records_refusal t i n)
unfolding records_refusal
records_refusal-cases P t i zero z h = z
records_refusal-cases P t i (suc n) z h =
    let here = h i (omega arith) in
    or_else-cases P (record_refusal t i) (records_refusal t (suc i) n)
    (record_refusal-cases P t i z here.0 here.1)
    (records_refusal-cases P t (suc i) n z (λ k l. h k (omega arith)))

-- what holds of no refusal and of each of these holds of the refusal of a table
pub table_refusal-cases : (P : Refusal → Type 0) (t : List ℕ) → P no_refusal → P (refuse 1 0) → P (refuse 2 0)
    → ((i : ℕ) → i < record_limit → P (refuse 3 i) × P (refuse 4 i)) → P (table_refusal t)
unfolding table_refusal
table_refusal-cases P t z one two records =
    let n = length t / record_length in
    let broken = not (eqb (length t % record_length) 0) in
    or_else-cases P (refuse_if broken 1 0) (or_else (refuse_if (ltb record_limit n) 2 0) (records_refusal t 0 n))
    (refuse_if-cases P broken 1 0 (λ _. one) z) (go (ltb record_limit n) refl)
  where
    go : (b : Bool) → ltb record_limit (length t / record_length) ≡ b
        → P (or_else (refuse_if b 2 0) (records_refusal t 0 (length t / record_length)))
    go true e = two
    go false e =
        let few = ltb-false record_limit (length t / record_length) e in
        records_refusal-cases P t 0 (length t / record_length) z (λ k l. records k (omega arith))

-- ---- facts

trust_of-sound : (x : ℕ) → (eqb (known_bit x) 1 ≡ true → trust_field x ≤ 2000) → Sound (trust_of x)
trust_of-sound x h = go (eqb (known_bit x) 1) h
  where
    go : (b : Bool) → (b ≡ true → trust_field x ≤ 2000) → Sound (cond b (known (trust_field x)) unknown)
    go true k = k refl
    go false k = tt

pub fact_of-sound : (x : ℕ) → record_sound x ≡ true → SoundFact (fact_of x)
unfolding fact_of
fact_of-sound x e =
    let low = leb (trust_field x) 2000 in
    let trusts = and_right (terms_nonzero x) (trust_sound x) e in
    trust_of-sound x (λ _. leb-true (trust_field x) 2000 (and_left low (eqb (known_bit x) 1 || eqb (trust_field x) 0) trusts))

-- behind the last record there are no bytes, and no known trust
behind-sound : (t : List ℕ) (i : ℕ) → length t ≤ record_length * i → SoundFact (fact_of (record_at t i))
unfolding fact_of record_at big_endian
behind-sound t i h = rw (drop_of_length-le t h) tt

fact-sound : (t : List ℕ) → TableChecked t → (i : ℕ) → SoundFact (fact_of (record_at t i))
fact-sound t c i = go (ltb i (length t / record_length)) refl
  where
    go : (b : Bool) → ltb i (length t / record_length) ≡ b → SoundFact (fact_of (record_at t i))
    go true e = fact_of-sound (record_at t i) (c.records i (ltb-true i (length t / record_length) e)).sound
    go false e = behind-sound t i (omega (arith, c.whole, ltb-false i (length t / record_length) e))

-- every fact that a view shows of a checked table is sound
pub facts-sound : (v : View) (t : List ℕ) → Passes (table_refusal t) → Every SoundFact (facts_in v t)
unfolding facts_in fact_at
facts-sound v t z =
    every-concat_map SoundFact (fact_at v t) (up_from 0 v.records)
    (every_of (λ i. (fact-sound t (table-checked t z) i, tt)) (up_from 0 v.records))

-- ---- facts rise

-- the values of the elements rise
abbrev pub Rising : {A : Type 0} → (A → ℕ) → List A → Type 0
Rising k [] = Unit {0}
Rising k (x ∷ xs) = Every (λ y. k x < k y) xs × Rising k xs

-- a triple as one number
abbrev pub key : Fact → ℕ
key f = f.subject * 2 ^ 40 + f.predicate * 2 ^ 20 + f.object

-- a fact that stands below another has the lesser number
pub key_below : (f g : Fact) → f.predicate < 2 ^ 20 → f.object < 2 ^ 20 → below f g ≡ true → key f < key g
unfolding below
key_below f g p o e = on_subject (ltb f.subject g.subject) refl e
  where
    same_subject : Bool
    same_subject = eqb f.subject g.subject

    same_predicate : Bool
    same_predicate = eqb f.predicate g.predicate

    less_object : Bool
    less_object = ltb f.object g.object

    on_predicate : f.subject ≡ g.subject → (b : Bool) → ltb f.predicate g.predicate ≡ b
        → b || (same_predicate && less_object) ≡ true → key f < key g
    on_predicate h true d k = omega (arith, ltb-true f.predicate g.predicate d)
    on_predicate h false d k =
        omega (
          arith,
          eqb-true f.predicate g.predicate (and_left same_predicate less_object k),
          ltb-true f.object g.object (and_right same_predicate less_object k),
        )

    on_subject : (b : Bool) → ltb f.subject g.subject ≡ b
        → b || (same_subject && (ltb f.predicate g.predicate || (same_predicate && less_object))) ≡ true → key f < key g
    on_subject true d k = omega (arith, ltb-true f.subject g.subject d)
    on_subject false d k =
        on_predicate (eqb-true f.subject g.subject (and_left same_subject _ k)) (ltb f.predicate g.predicate) refl
        (and_right same_subject _ k)

-- the number of record i's triple
abbrev key_at : List ℕ → ℕ → ℕ
key_at t i = key (fact_of (record_at t i))

-- a record that was checked has a triple above the one before
key_at-below : (t : List ℕ) (i : ℕ) → RecordChecked t (suc i) → key_at t i < key_at t (suc i)
unfolding fact_of
key_at-below t i c = key_below (fact_of (record_at t i)) (fact_of (record_at t (suc i))) (omega arith) (omega arith) c.rising

-- and above every one before
keys-rise : (t : List ℕ) → TableChecked t → (j k : ℕ) → j < k → k < length t / record_length → key_at t j < key_at t k
keys-rise t c j zero h l = absurd (omega arith)
keys-rise t c j (suc k) h l = go (ltb j k) refl (λ m. keys-rise t c j k m (omega arith)) (key_at-below t k (c.records (suc k) l))
  where
    go : (b : Bool) → ltb j k ≡ b → (j < k → key_at t j < key_at t k) → key_at t k < key_at t (suc k) → key_at t j < key_at t (suc k)
    go true e again step = omega (arith, again (ltb-true j k e), step)
    go false e again step = let same : j ≡ k = omega (arith, ltb-false j k e) in rw same step

-- of two triples the lesser has no greater subject
subject-≤ : (t : List ℕ) (j k : ℕ) → key_at t j < key_at t k → (fact_of (record_at t j)).subject ≤ (fact_of (record_at t k)).subject
unfolding fact_of
subject-≤ t j k l = omega arith

-- the subjects of a table that passed the check do not fall
pub subjects-rise : (t : List ℕ) → TableChecked t → (j k : ℕ) → j ≤ k → k < length t / record_length
    → (fact_of (record_at t j)).subject ≤ (fact_of (record_at t k)).subject
subjects-rise t c j k h l = go (ltb j k) refl
  where
    go : (b : Bool) → ltb j k ≡ b → (fact_of (record_at t j)).subject ≤ (fact_of (record_at t k)).subject
    go true e = subject-≤ t j k (keys-rise t c j k (ltb-true j k e) l)
    go false e =
        let same : j ≡ k = omega (arith, ltb-false j k e) in rw same (le_refl (fact_of (record_at t k)).subject)

-- the facts of n records from record i on
abbrev facts_from : View → List ℕ → ℕ → ℕ → List Fact
facts_from v t i n = concat_map (fact_at v t) (up_from i n)

-- the triples behind record i are above what its triple is not below
facts_from-above : (v : View) (t : List ℕ) (k i n : ℕ) → ((j : ℕ) → j < suc i + n → RecordChecked t j) → k ≤ key_at t i
    → Every (λ f. k < key f) (facts_from v t (suc i) n)
unfolding fact_at
facts_from-above v t k i zero c h = tt
facts_from-above v t k i (suc n) c h =
    let l = key_at-below t i (c (suc i) (omega arith)) in
    (omega arith, facts_from-above v t k (suc i) n (λ j m. c j (omega arith)) (omega arith))

facts_from-rising : (v : View) (t : List ℕ) (i n : ℕ) → ((j : ℕ) → j < i + n → RecordChecked t j) → Rising key (facts_from v t i n)
unfolding fact_at
facts_from-rising v t i zero c = tt
facts_from-rising v t i (suc n) c = (
  facts_from-above v t (key_at t i) i n (λ j m. c j (omega arith)) (omega arith),
  facts_from-rising v t (suc i) n (λ j m. c j (omega arith)),
)

-- the triples of an accepted table rise, so none stands twice
pub facts_in-rising : (t : List ℕ) → Passes (table_refusal t) → Rising key (facts_in (whole_table t) t)
unfolding facts_in
facts_in-rising t z =
    facts_from-rising (whole_table t) t 0 (length t / record_length) (λ j m. (table-checked t z).records j (omega arith))

-- ---- one triple

pub same_triple-self : (f : Fact) → same_triple f f ≡ true
same_triple-self f =
    and_both (and_both (eq-eqb f.subject f.subject refl) (eq-eqb f.predicate f.predicate refl))
    (eq-eqb f.object f.object refl)

pub same_triple-turned : (f g : Fact) → same_triple f g ≡ true → same_triple g f ≡ true
same_triple-turned f g e =
    let same = and-three (eqb f.subject g.subject) (eqb f.predicate g.predicate) (eqb f.object g.object) e in
    and_both (and_both (turn f.subject g.subject same.0) (turn f.predicate g.predicate same.1))
    (turn f.object g.object same.2)
  where
    turn : (a b : ℕ) → eqb a b ≡ true → eqb b a ≡ true
    turn a b d = eq-eqb b a (sym (eqb-true a b d))

-- one triple has one number
pub same_triple-key : (f g : Fact) → same_triple f g ≡ true → key f ≡ key g
same_triple-key f g e =
    let same = and-three (eqb f.subject g.subject) (eqb f.predicate g.predicate) (eqb f.object g.object) e in
    omega (
      arith,
      eqb-true f.subject g.subject same.0,
      eqb-true f.predicate g.predicate same.1,
      eqb-true f.object g.object same.2,
    )

-- two records of a table that passed the check have one triple exactly where they are one record
pub same_triple-numbers : (t : List ℕ) → TableChecked t → (i j : ℕ) → i < length t / record_length → j < length t / record_length
    → same_triple (fact_of (record_at t i)) (fact_of (record_at t j)) ≡ eqb i j
same_triple-numbers t c i j h k =
    test-eq (same_triple (fact_of (record_at t i)) (fact_of (record_at t j))) (eqb i j)
    (λ e. eq-eqb i j (go (ltb i j) refl (ltb j i) refl (same_triple-key (fact_of (record_at t i)) (fact_of (record_at t j)) e)))
    (λ e. rw (eqb-true i j e) (same_triple-self (fact_of (record_at t j))))
  where
    go : (a : Bool) → ltb i j ≡ a → (b : Bool) → ltb j i ≡ b → key_at t i ≡ key_at t j → i ≡ j
    go true d b e same = absurd (omega (arith, keys-rise t c i j (ltb-true i j d) k, same))
    go false d true e same = absurd (omega (arith, keys-rise t c j i (ltb-true j i e) h, same))
    go false d false e same = omega (arith, ltb-false i j d, ltb-false j i e)

-- so distinct triples of such a table are distinct record numbers
pub distinct-numbers : (t : List ℕ) → Passes (table_refusal t) → (is : List ℕ) → Every (λ i. i < length t / record_length) is
    → distinct_records (map (λ i. fact_of (record_at t i)) is) ≡ map (λ i. fact_of (record_at t i)) (distinct_by eqb is)
distinct-numbers t z is e =
    distinct-map same_triple (λ i. fact_of (record_at t i)) is
    ∙ ap (map (λ i. fact_of (record_at t i)))
    (distinct-cong (λ i j. same_triple (fact_of (record_at t i)) (fact_of (record_at t j))) eqb (λ i. i < length t / record_length)
    (same_triple-numbers t (table-checked t z)) is e)
