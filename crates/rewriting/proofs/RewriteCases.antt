-- The call's answer by its cases: the query is refused, the output is too short, or the push is written. Assumes nothing.
use mathlib.Core.Path.{◌≡◌, sym, ap, ◌∙◌}
use mathlib.Core.Bool.{false}
use mathlib.Core.List.{List}
use Prim.Native.Nat.{ℕ, ◌≤◌, ◌<◌}
use native.Mathlib.Omega.{arith}
use borrow.Author.Tests.{lt-ltb, le-ltb, eqb-true}
use lib.ListN.{length}
use Rattle.tsparql.specs.Push.{no_bound, push}
use Rattle.tsparql.specs.Writing.{node_bytes}
use Rattle.tsparql.specs.Reading.{query_node}
use Rattle.tsparql.specs.Check.{Refusal, refuse, Passes, passes, query_refusal}
use Rattle.tsparql.specs.Rewrite.{rewrite_limit, rewriting, rewrite_refusal, wrote_nothing, rewrite}
use Rattle.tsparql.proofs.QueryLaws.{query-checked}
use Rattle.tsparql.proofs.RefusalLaws.{or_else-second}
use Rattle.tsparql.proofs.RewriteLaws.{rewrite-passes}
use Rattle.query.specs.Found.{NodeSound, node_of}
use Rattle.query.proofs.Forest.{query-reads}
use Rattle.std.specs.Prelude.{Ok, Err}
use Rattle.refusals.specs.declared.Refused.{Refused}
use Rattle.refusals.specs.Refusals.{refusal_of}
use Rattle.scope.specs.Variables.{Checked}
use Rattle.rewriting.specs.Answers.{Pushes, rewritten_in}

-- 5 to 7
pub query-refused : (s out : List ℕ) {e : Refused} → Checked rewrite_limit s (Err e) → wrote_nothing (refusal_of e) out ≡ rewrite s out
unfolding rewrite rewrite_refusal
query-refused s out checked =
    let no : passes (query_refusal rewrite_limit s) ≡ false = sym checked.sound in
    sym (rw (no, no) (ap (λ (f : Refusal). wrote_nothing f out) (sym checked.refusal)))

pub query-passes : (s : List ℕ) → Checked rewrite_limit s (Ok tt) → Passes (query_refusal rewrite_limit s)
query-passes s checked = eqb-true (query_refusal rewrite_limit s).number 0 (sym checked.sound)

-- a query that passes is one node, and short enough
pub record Whole (s : List ℕ) : Type 0 where
  pub sound : NodeSound s
  pub is : node_of s ≡ query_node s
  pub short : length s ≤ rewrite_limit

pub whole : (s : List ℕ) → Passes (query_refusal rewrite_limit s) → Whole s
whole s z =
    let c = query-checked rewrite_limit s z in
    let reads = query-reads s (rw c.read tt) in
    record { sound = rw reads.1 tt; is = rw reads.1; short = c.short }

module _ (s out : List ℕ) (z : Passes (query_refusal rewrite_limit s)) where
  rewriting-is : node_bytes (push no_bound (node_of s)) ≡ rewriting s
  unfolding rewriting
  rewriting-is = ap (λ x. node_bytes (push no_bound x)) (whole s z).is

  -- 9
  pub too_short : {size : ℕ} → size ≡ length (node_bytes (push no_bound (node_of s))) → length out < size
      → wrote_nothing (refuse 9 size) out ≡ rewrite s out
  unfolding rewrite rewrite_refusal
  too_short e l =
      let is = e ∙ ap length rewriting-is in
      sym (rw (z, lt-ltb (length out) (length (rewriting s)) (omega (arith, is)), is))

  -- the push is written
  pub all-written : (out' : List ℕ) {size next : ℕ} → length (node_bytes (push no_bound (node_of s))) ≤ length out
      → Pushes s no_bound out out' (Ok (size, next)) → rewritten_in (Ok size) out' ≡ rewrite s out
  unfolding rewrite_refusal
  all-written out' {size} l h =
      let is = rewriting-is in
      let fits = le-ltb (length out) (length (rewriting s)) (omega (arith, ap length is)) in
      let n : size ≡ length (node_bytes (push no_bound (node_of s))) = cc h.is in
      let bytes = h.wrote.bytes in
      let passed = rewrite-passes s out (rw (or_else-second (query_refusal rewrite_limit s) _ z, fits)) in
      rw (n, bytes, is) (sym passed)
