-- Files that are too long: what is printed for a long query, and that one byte past each limit is enough to read. Assumes nothing.
use mathlib.Core.Path.{◌≡◌, refl, sym, ap, ◌∙◌}
use mathlib.Core.Bool.{Bool, true, false, cond}
use mathlib.Core.List.{List}
use Prim.Native.Nat.{ℕ, ◌*◌, ◌≤◌, ◌<◌}
use native.Mathlib.Omega.{arith}
use borrow.Author.Tests.{eqb-false, lt-ltb, ltb-true, ltb-false}
use lib.Dec.{ltb}
use lib.ListN.{length, take, replicate}
use lib.Seq.{take_all, length-take-le}
use Rattle.tsparql.specs.Table.{whole_table}
use Rattle.tsparql.specs.PatternSets.{by_least, aggregate}
use Rattle.tsparql.specs.Check.{Refusal, refuse, Passes, passes, or_else, table_refusal, query_refusal, evaluate_limit, check}
use Rattle.tsparql.specs.Evaluate.{row_length, refused_with}
use Rattle.tsparql.specs.Strikes.{refused_line, facts_limit, program_rows, strikes}
use Rattle.tsparql.proofs.EvaluateLaws.{evaluate-refused}
use Rattle.report.proofs.ReportLaws.{listed, report-refused, long-facts, evaluated-facts}

-- ---- a long query: 5 at 0, after 1 to 4

check-long : (t s : List ℕ) → evaluate_limit < length s → check t s ≡ or_else (table_refusal t) (refuse 5 0)
unfolding check query_refusal
check-long t s l = rw (lt-ltb evaluate_limit (length s) l)

five-refuses : (r : Refusal) → Passes (or_else r (refuse 5 0)) → ⊥
five-refuses r = go (passes r) refl
  where
    go : (b : Bool) → passes r ≡ b → Passes (cond b (refuse 5 0) r) → ⊥
    go true e z = let y : ◌≡◌ {A = ℕ} 5 0 = z in omega arith
    go false e z = eqb-false r.number 0 e z

pub long-query : (t s : List ℕ) → length t ≤ facts_limit → evaluate_limit < length s
    → strikes t s ≡ refused_line (or_else (table_refusal t) (refuse 5 0))
long-query t s h l =
    let ws : List ℕ = replicate (row_length * program_rows) 0 in
    let c = check-long t s l in
    let z : Passes (check t s) → ⊥ = rw c (five-refuses (table_refusal t)) in
    rw (evaluated-facts t s h, evaluate-refused (aggregate by_least) (whole_table t) t s ws z)
    (report-refused (refused_with (check t s) ws) (listed t s) z ∙ ap refused_line c)

-- ---- the fronts of the files

query-front : (t s : List ℕ) → length t ≤ facts_limit → strikes t (take 5121 s) ≡ strikes t s
query-front t s h = go (ltb evaluate_limit (length s)) refl
  where
    go : (b : Bool) → ltb evaluate_limit (length s) ≡ b → strikes t (take 5121 s) ≡ strikes t s
    go true e =
        let l = ltb-true evaluate_limit (length s) e in
        let front = length-take-le 5121 s (omega arith) in
        long-query t (take 5121 s) h (omega (arith, front)) ∙ sym (long-query t s h l)
    go false e =
        let l = ltb-false evaluate_limit (length s) e in
        ap (λ (q : List ℕ). strikes t q) (take_all 5121 s (omega arith))

-- what the program reads of its files is enough
pub strikes-fronts : (t s : List ℕ) → strikes (take 65530 t) (take 5121 s) ≡ strikes t s
strikes-fronts t s = go (ltb facts_limit (length t)) refl
  where
    go : (b : Bool) → ltb facts_limit (length t) ≡ b → strikes (take 65530 t) (take 5121 s) ≡ strikes t s
    go true e =
        let l = ltb-true facts_limit (length t) e in
        let front = length-take-le 65530 t (omega arith) in
        long-facts (take 65530 t) (take 5121 s) (omega (arith, front)) ∙ sym (long-facts t s l)
    go false e =
        let l = ltb-false facts_limit (length t) e in
        ap (λ (f : List ℕ). strikes f (take 5121 s)) (take_all 65530 t (omega arith)) ∙ query-front t s l
