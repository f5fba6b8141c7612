-- The check by the answers of its parts: an accepted table is seen whole, a refused one is refused, and the answer on the query stands
-- where the table passes; and the ceiling of what was checked. Assumes nothing.
use mathlib.Core.Path.{◌≡◌, sym, ap, subst, ◌∙◌}
use mathlib.Core.List.{List}
use Prim.Native.Nat.{ℕ}
use native.Mathlib.Omega.{arith}
use borrow.Author.Tests.{eqb-true}
use Rattle.tsparql.specs.Check.{Passes, table_refusal, check}
use Rattle.tsparql.specs.Table.{whole_table}
use Rattle.tsparql.specs.Calls.{ceiling_refused, ceiling_answered, ceiling_over, ceiling_call}
use Rattle.table.specs.Answers as TableAnswers
use Rattle.std.specs.Prelude.{Ok, Err}
use Rattle.refusals.specs.declared.Fault.{Fault}
use Rattle.refusals.specs.declared.Refused.{Refused}
use Rattle.refusals.specs.Refusals.{refusal_of}
use Rattle.table.specs.declared.checked.Table as Code
use Rattle.table.specs.Answers.{view_of, facts_seen}
use Rattle.scope.specs.Variables as Variables
use Rattle.ceiling.specs.Answers.{CeilingIs}
use Rattle.ceiling.proofs.CheckedLaws.{checked-answered}
use Rattle.patterns.specs.Sets.{Seen}
use Rattle.randwyler.specs.Answers.{Checked, Ready}

-- ---- both

-- an accepted table is seen whole
pub whole-seen : (t : List ℕ) → Passes (table_refusal t) → Seen (whole_table t) t
whole-seen t z = record { passed = z; inside = omega arith }

pub table-refuses : (t s : List ℕ) {r : Refused} → TableAnswers.Checked t (Err r) → Checked t s (Err r)
unfolding check
table-refuses t s h =
    let no = sym h.sound in
    record { sound = rw (no, no); refusal = h.refusal ∙ sym (rw no); view = rw (no, no); bytes = tt }

module _ (t s : List ℕ) (x : Code.Table) (h : TableAnswers.Checked t (Ok x)) where
  pub query-refuses : {r : Refused} → Variables.Checked 5120 s (Err r) → Checked t s (Err r)
  unfolding check
  query-refuses k =
      let yes = sym h.sound in
      let no = sym k.sound in
      record { sound = rw (yes, no); refusal = k.refusal ∙ sym (rw yes); view = rw (yes, no); bytes = tt }

  pub both-pass : Variables.Checked 5120 s (Ok tt) → Checked t s (Ok x)
  unfolding check
  both-pass k =
      let yes = sym h.sound in
      let too = sym k.sound in
      record { sound = rw (yes, too); refusal = k.refusal ∙ sym (rw yes); view = rw (yes, too) (rw yes at h.view); bytes = h.bytes }

-- ---- ceiling

pub ceiling-refuses : (t s : List ℕ) {r : Refused} → Checked t s (Err r) → ceiling_refused (refusal_of r) ≡ ceiling_call t s
unfolding ceiling_over
ceiling-refuses t s h = ap ceiling_refused h.refusal ∙ sym (rw (sym h.sound))

-- what was checked, by its own bytes
module _ (t s : List ℕ) (x : Code.Table) (h : Checked t s (Ok x)) where
  passed : Passes (check x.bytes.now s)
  passed = subst (λ b. Passes (check b s)) (sym h.bytes) (eqb-true (check t s).number 0 (sym h.sound))

  view-whole : view_of x.view ≡ whole_table x.bytes.now
  view-whole = rw (sym h.sound) at h.view ∙ ap whole_table (sym h.bytes)

  pub checked-ready : Ready (view_of x.view) x.bytes.now s
  checked-ready = record { passed = passed; seen = view-whole }

  pub ceiling-answers : {c n : ℕ} → CeilingIs (facts_seen x) s (Ok (c, n)) → ceiling_answered c ≡ ceiling_call t s
  ceiling-answers {c} {n} k =
      let a = checked-answered (view_of x.view) x.bytes.now s (Ok (c, n)) passed k in
      let is : c ≡ a.ceiling = cc a.answer in
      ap ceiling_answered is ∙ sym a.call ∙ ap (λ w. ceiling_over w x.bytes.now s) view-whole ∙ ap (λ b. ceiling_call b s) h.bytes

  pub ceiling-sound : {f : Fault} → CeilingIs (facts_seen x) s (Err f) → ⊥
  ceiling-sound {f} k =
      let a = checked-answered (view_of x.view) x.bytes.now s (Err f) passed k in
      let z : ◌≡◌ {A = ℕ} 0 1 = cc a.answer in
      omega arith
