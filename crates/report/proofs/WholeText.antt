-- The text is at most 200,000 bytes long, so a buffer of so many holds all of it. Assumes nothing.
use mathlib.Core.Path.{◌≡◌, refl}
use mathlib.Core.Bool.{Bool, true, false}
use mathlib.Core.List.{List}
use Prim.Native.Nat.{ℕ, ◌+◌, ◌*◌, ◌≤◌}
use native.Mathlib.Omega.{arith}
use borrow.Author.Tests.{eqb-true, eqb-false, ltb-true, ltb-false}
use lib.Dec.{ltb}
use lib.ListN.{length, take, drop, replicate, length-append, length-replicate}
use lib.Seq.{take_at, sets-eq}
use Rattle.tsparql.specs.Values.{Row}
use Rattle.tsparql.specs.Table.{whole_table, facts_in}
use Rattle.tsparql.specs.PatternSets.{by_least, aggregate, set_rows}
use Rattle.tsparql.specs.Reading.{query_node}
use Rattle.tsparql.specs.Check.{refuse, Passes, passes}
use Rattle.tsparql.specs.Evaluate.{row_length, Evaluated}
use Rattle.tsparql.specs.Calls.{evaluate_untallied}
use Rattle.tsparql.specs.Strikes.{row_line, report, facts_limit, program_rows, strikes}
use Rattle.tsparql.specs.WellFormed.{Bytes}
use Rattle.tsparql.proofs.ListLaws.{every-weaken}
use Rattle.tsparql.proofs.EvaluateLaws.{evaluate-answered}
use Rattle.tsparql.proofs.SpaceLaws.{count-space-≤}
use Rattle.tsparql.proofs.CallLaws.{evaluate-refusal-fits, evaluate-pairs-<}
use Rattle.text.specs.Writing.{Puts}
use Rattle.text.proofs.TextSize.{row-size, refused-size, counts-size, concat_map-size}
use Rattle.report.proofs.ReportLaws.{listed, listed-formed, report-answered, report-refused, long-facts, evaluated-facts}

module _ (t s ws : List ℕ) (bytes : Bytes t) (words : length ws ≡ row_length * program_rows) where
  abbrev e : Evaluated
  e = evaluate_untallied t s by_least ws

  abbrev rows : List Row
  rows = listed t s

  -- rows and peak are at most 963
  few : Passes e.refusal → (e.rows ≡ length rows) × (length rows ≤ 963) × (e.peak ≤ 963)
  few z =
      let a = evaluate-answered (aggregate by_least) (whole_table t) t s ws z in
      let most = count-space-≤ (set_rows (aggregate by_least) (facts_in (whole_table t) t)) (query_node s) in
      rw a.answer-is (refl, omega (arith, a.fits, words, most), omega (arith, a.fits, words))

  answered-size : Passes e.refusal → length (report e rows) ≤ 200000
  answered-size z =
      let a = evaluate-answered (aggregate by_least) (whole_table t) t s ws z in
      let f = few z in
      let lines = concat_map-size row_line 198 rows (every-weaken row-size rows (listed-formed t s bytes a.checked)) in
      let pairs = evaluate-pairs-< (aggregate by_least) (whole_table t) t s ws z in
      let counts = counts-size e (omega (arith, f)) (omega (arith, f)) (omega (arith, pairs)) in
      rw (report-answered e rows z, length-append) (omega (arith, f, lines, counts))

  refused-short : (Passes e.refusal → ⊥) → length (report e rows) ≤ 200000
  refused-short z =
      let fits = evaluate-refusal-fits (aggregate by_least) (whole_table t) t s ws in
      rw (report-refused e rows z) (omega (arith, refused-size e.refusal (omega (arith, fits)) (omega (arith, fits))))

  report-size : length (report e rows) ≤ 200000
  report-size = go (passes e.refusal) refl
    where
      go : (b : Bool) → passes e.refusal ≡ b → length (report e rows) ≤ 200000
      go true p = answered-size (eqb-true e.refusal.number 0 p)
      go false p = refused-short (eqb-false e.refusal.number 0 p)

pub strikes-size : (t s : List ℕ) → Bytes t → length (strikes t s) ≤ 200000
strikes-size t s bytes = go (ltb facts_limit (length t)) refl
  where
    go : (b : Bool) → ltb facts_limit (length t) ≡ b → length (strikes t s) ≤ 200000
    go true h =
        let short = refused-size (refuse 2 0) (omega arith) (omega arith) in
        rw (long-facts t s (ltb-true facts_limit (length t) h)) (omega arith)
    go false h =
        rw (evaluated-facts t s (ltb-false facts_limit (length t) h))
        (report-size t s (replicate (row_length * program_rows) 0) bytes (length-replicate {A = ℕ} (row_length * program_rows) 0))

-- what was written into a buffer of so many bytes is the whole text
pub text-whole : (t s : List ℕ) → Bytes t → {out out' : List ℕ} {r : ℕ} → 200000 ≤ length out → Puts (strikes t s) 0 out out' r
    → take r out' ≡ strikes t s
text-whole t s bytes {out} {out'} {r} room p =
    let size = strikes-size t s bytes in
    let all : r ≡ length (strikes t s) = omega (arith, p.place) in
    let fits : 0 + length (strikes t s) ≤ length out = omega arith in
    let rest = drop (0 + length (strikes t s)) out in
    rw (p.buffer, all, sets-eq (strikes t s) out 0 fits) (take_at (strikes t s) rest (length (strikes t s)) refl)
