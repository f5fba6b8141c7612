-- Request 2 on evaluation and ceiling: a query whose patterns all name their subject is answered alike over two accepted tables with the
-- same records up to one of a greater subject than all of these. Assumes nothing.
use mathlib.Core.Path.{◌≡◌}
use mathlib.Core.List.{List}
use Prim.Native.Nat.{ℕ}
use Rattle.tsparql.specs.Query.{EverySet}
use Rattle.tsparql.specs.Table.{whole_table, record_at, fact_of}
use Rattle.tsparql.specs.PatternSets.{Aggregation, aggregate}
use Rattle.tsparql.specs.Reading.{query_node}
use Rattle.tsparql.specs.Check.{Passes, table_refusal}
use Rattle.tsparql.specs.Calls.{evaluate_untallied, ceiling_call}
use Rattle.tsparql.proofs.NodeSets.{every_set-weaken}
use Rattle.tsparql.proofs.EvaluateLaws.{evaluate-alike}
use Rattle.tsparql.proofs.CallLaws.{ceiling-alike}
use Rattle.patterns.specs.Scan.{AlikeUpTo, NamedBelow}
use Rattle.patterns.proofs.ReplacedLaws.{set_rows-replaced, figure-replaced}
use Rattle.randwyler.proofs.Checks.{whole-seen}

module _ (g : ℕ) (t u s : List ℕ) (alike : AlikeUpTo g (whole_table t) (whole_table u) t u) (accepted : Passes (table_refusal t))
    (also-accepted : Passes (table_refusal u)) (named : EverySet (NamedBelow (fact_of (record_at t g)).subject) (query_node s)) where
  pub evaluate-replaced : (choice : Aggregation) (ws : List ℕ) → evaluate_untallied t s choice ws ≡ evaluate_untallied u s choice ws
  evaluate-replaced choice ws =
      let v = whole_table t in
      let w = whole_table u in
      evaluate-alike (aggregate choice) v w t u s ws accepted also-accepted
      (every_set-weaken (set_rows-replaced g v w t u alike (whole-seen t accepted) (whole-seen u also-accepted) (aggregate choice))
      (query_node s) named)

  pub ceiling-replaced : ceiling_call t s ≡ ceiling_call u s
  ceiling-replaced =
      let v = whole_table t in
      let w = whole_table u in
      ceiling-alike v w t u s accepted also-accepted
      (every_set-weaken (figure-replaced g v w t u alike (whole-seen t accepted) (whole-seen u also-accepted)) (query_node s) named)
