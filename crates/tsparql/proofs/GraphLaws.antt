-- Graphs (specs/Cardinality.antt): facts whose triples rise are one (`rising-graph`), and so is a part of one (`graph-keep_if`); the mean
-- is an aggregate of graphs (`mean-set`; the least trust: Published). Assumes nothing.
use mathlib.Core.Path.{◌≡◌, refl, sym, ap, ◌∙◌}
use mathlib.Core.Bool.{Bool, true, false, ◌&&◌, ◌||◌, not}
use mathlib.Core.List.{List, [], ◌∷◌}
use Prim.Native.Nat.{ℕ, ◌+◌, ◌<◌}
use native.Mathlib.Nat.{zero-add}
use native.Mathlib.Omega.{arith}
use lib.Dec.{eqb}
use lib.ListN.{length}
use borrow.Author.Tests.{eqb-true, ne_eqb}
use Rattle.tsparql.specs.Lists.{Every, cons_if, keep_if, all_pass, any_pass, distinct_by, sum_over}
use Rattle.tsparql.specs.Values.{is_known, same_trust}
use Rattle.tsparql.specs.Table.{Fact, same_triple}
use Rattle.tsparql.specs.PatternSets.{distinct_records, mean_once, mean}
use Rattle.tsparql.specs.Cardinality.{count_if, Graph, SetAggregate}
use Rattle.tsparql.proofs.ListLaws.{and_left, and_right, and_both, and-three, test-eq, every-weaken, every-keep_if}
use Rattle.tsparql.proofs.SumLaws.{TellsSame, length-sum, distinct-cong, members, every-member, distinct-sums}
use Rattle.tsparql.proofs.TableLaws.{Rising, key, same_triple-self, same_triple-turned, same_triple-key}
use Rattle.tsparql.proofs.MeanLaws.{fact_number}
use Rattle.tsparql.proofs.Cardinalities.{same_trust-true, same_trust-refl}

-- ---- graphs

pub rising-graph : (fs : List Fact) → Rising key fs → Graph fs
rising-graph [] r = tt
rising-graph (f ∷ fs) r = (every-weaken (λ h l. differs h l (same_triple f h) refl) fs r.0, rising-graph fs r.1)
  where
    differs : (h : Fact) → key f < key h → (b : Bool) → same_triple f h ≡ b → b ≡ false
    differs h l true e = absurd (omega (arith, same_triple-key f h e))
    differs h l false e = refl

pub graph-keep_if : (p : Fact → Bool) (fs : List Fact) → Graph fs → Graph (keep_if p fs)
graph-keep_if p [] g = tt
graph-keep_if p (f ∷ fs) g = at (p f) (every-keep_if (λ h. same_triple f h ≡ false) p fs g.0) (graph-keep_if p fs g.1)
  where
    at : (b : Bool) → Every (λ h. same_triple f h ≡ false) (keep_if p fs) → Graph (keep_if p fs) → Graph (cons_if b f (keep_if p fs))
    at true e rest = (e, rest)
    at false e rest = rest

-- ---- records

-- the same triple with the same trust
abbrev same_fact : Fact → Fact → Bool
same_fact f h = same_triple f h && same_trust f.trust h.trust

same_fact-true : (f h : Fact) → same_fact f h ≡ true → f ≡ h
same_fact-true f h e = λ i. record { subject = on_subject i; predicate = on_predicate i; object = on_object i; trust = on_trust i }
  where
    triple : (eqb f.subject h.subject ≡ true) × (eqb f.predicate h.predicate ≡ true) × (eqb f.object h.object ≡ true)
    triple =
        and-three (eqb f.subject h.subject) (eqb f.predicate h.predicate) (eqb f.object h.object)
        (and_left (same_triple f h) (same_trust f.trust h.trust) e)

    on_subject : f.subject ≡ h.subject
    on_subject = eqb-true f.subject h.subject triple.0

    on_predicate : f.predicate ≡ h.predicate
    on_predicate = eqb-true f.predicate h.predicate triple.1

    on_object : f.object ≡ h.object
    on_object = eqb-true f.object h.object triple.2

    on_trust : f.trust ≡ h.trust
    on_trust = same_trust-true f.trust h.trust (and_right (same_triple f h) (same_trust f.trust h.trust) e)

fact-same : TellsSame same_fact
fact-same = record { only = same_fact-true; self = λ f. and_both (same_triple-self f) (same_trust-refl f.trust) }

-- the record stands in the list
abbrev stands : List Fact → Fact → Bool
stands fs f = any_pass (same_fact f) fs

-- two records of a graph with one triple are one record
graph-one : (vs : List Fact) → Graph vs → (f h : Fact) → stands vs f ≡ true → stands vs h ≡ true → same_triple f h ≡ true → f ≡ h
graph-one [] g f h a b e = absurd (let no : ◌≡◌ {A = ℕ} 0 1 = cc in omega arith)
graph-one (v ∷ vs) g f h a b e = at (same_fact f v) refl (same_fact h v) refl a b (graph-one vs g.1 f h)
  where
    -- the first record is none of the later ones
    first : (k : Fact) → same_triple v k ≡ true → stands vs k ≡ true → ⊥
    first k e c =
        let other = every-member same_fact fact-same (λ u. same_triple v u ≡ false) vs g.0 k c in
        let no : ◌≡◌ {A = ℕ} 0 1 = cc in omega arith

    at : (p : Bool) → same_fact f v ≡ p → (q : Bool) → same_fact h v ≡ q → p || stands vs f ≡ true → q || stands vs h ≡ true
        → (stands vs f ≡ true → stands vs h ≡ true → same_triple f h ≡ true → f ≡ h) → f ≡ h
    at true c true d a b later = same_fact-true f v c ∙ sym (same_fact-true h v d)
    at true c false d a b later = absurd (first h (ap (λ (u : Fact). same_triple u h) (sym (same_fact-true f v c)) ∙ e) b)
    at false c true d a b later =
        absurd (first f (ap (λ (u : Fact). same_triple u f) (sym (same_fact-true h v d)) ∙ same_triple-turned f h e) a)
    at false c false d a b later = later a b e

-- records that are those of a graph: by triple and by record, the same are distinct
distinct-records : (vs : List Fact) → Graph vs → (us : List Fact) → Every (λ f. stands vs f ≡ true) us
    → distinct_records us ≡ distinct_by same_fact us
distinct-records vs g us e =
    distinct-cong same_triple same_fact (λ f. stands vs f ≡ true)
    (λ f h a b. test-eq (same_triple f h) (same_fact f h)
    (λ d. rw (graph-one vs g f h a b d) (fact-same.self h)) (and_left (same_triple f h) (same_trust f.trust h.trust)))
    us e

-- ---- the mean

-- a test that all pass, as a sum
all_pass-sum : (p : Fact → Bool) (fs : List Fact) → all_pass p fs ≡ eqb (sum_over fs (λ f. count_if (not (p f)) 1)) 0
all_pass-sum p [] = refl
all_pass-sum p (f ∷ fs) = at (p f) (all_pass-sum p fs)
  where
    rest : ℕ
    rest = sum_over fs (λ h. count_if (not (p h)) 1)

    at : (b : Bool) → all_pass p fs ≡ eqb rest 0 → b && all_pass p fs ≡ eqb (count_if (not b) 1 + rest) 0
    at true e = e ∙ ap (λ (n : ℕ). eqb n 0) (sym (zero-add rest))
    at false e = sym (ne_eqb (1 + rest) 0 (λ z. omega (arith, z)))

-- lists with the same sums, of whatever is added up, have one mean
mean_once-sums : (us vs : List Fact) → ((f : Fact → ℕ) → sum_over us f ≡ sum_over vs f) → mean_once us ≡ mean_once vs
mean_once-sums us vs same =
    let all : all_pass (λ f. is_known f.trust) us ≡ all_pass (λ f. is_known f.trust) vs =
    all_pass-sum (λ f. is_known f.trust) us
    ∙ ap (λ (n : ℕ). eqb n 0) (same (λ f. count_if (not (is_known f.trust)) 1))
    ∙ sym (all_pass-sum (λ f. is_known f.trust) vs) in
    let count : length us ≡ length vs = length-sum us ∙ same (λ _. 1) ∙ sym (length-sum vs) in
    rw (all, count, same fact_number)

-- a record stands in a list where not all others are different from it
stands-all : (fs : List Fact) (f : Fact) → stands fs f ≡ not (all_pass (λ h. not (same_fact f h)) fs)
stands-all [] f = refl
stands-all (h ∷ hs) f = at (same_fact f h) (stands-all hs f)
  where
    at : (b : Bool) → stands hs f ≡ not (all_pass (λ k. not (same_fact f k)) hs)
        → b || stands hs f ≡ not (not b && all_pass (λ k. not (same_fact f k)) hs)
    at true e = refl
    at false e = e

pub mean-set : SetAggregate mean
unfolding mean
mean-set us vs g same =
    ap mean_once (distinct-records vs g us (every-weaken (λ f e. sym (alike f) ∙ e) us (members same_fact fact-same us)))
    ∙ mean_once-sums (distinct_by same_fact us) (distinct_by same_fact vs) (distinct-sums same_fact fact-same us vs alike)
    ∙ ap mean_once (sym (distinct-records vs g vs (members same_fact fact-same vs)))
  where
    alike : (f : Fact) → stands us f ≡ stands vs f
    alike f = stands-all us f ∙ ap not (same (λ h. not (same_fact f h))) ∙ sym (stands-all vs f)
