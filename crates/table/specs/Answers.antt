-- What the answers of this crate's code mean in the terms of the definitions: the fields of a record, what the check of a table answers,
-- and where the records of a subject start. A promise in several parts is a record. Assumes nothing.
use Rattle.std.specs.Prelude.{◌≡◌, Bool, true, false, cond, List, ℕ, ◌+◌, ◌*◌, ◌%◌, ◌^◌, ◌≤◌, ◌<◌, Result, Ok, Err, IfOk}
use Rattle.tsparql.specs.Table.{Fact, View, whole_table, record_at, fact_of, facts_in}
use Rattle.tsparql.specs.Check.{passes, table_refusal}
use Rattle.refusals.specs.declared.Refused.{Refused}
use Rattle.refusals.specs.Refusals.{refusal_in}
use Rattle.table.specs.declared.Fields.{Fields}
use Rattle.table.specs.declared.checked.View as CodeView
use Rattle.table.specs.declared.checked.Table as Code

-- the record's number that the fields are of: 60 bits of subject, predicate and object, and 12 bits of known bit and trust field
abbrev pub number_in : Fields → ℕ
number_in f = f.key * 2 ^ 12 + f.trust % 2 ^ 12

-- the view that a value of the code stands for
abbrev pub view_of : CodeView.View → View
view_of v = record { records = v.records }

-- the facts that a call sees of a table
abbrev pub facts_seen : Code.Table → List Fact
facts_seen t = facts_in (view_of t.view) t.bytes.now

-- nothing of a table
abbrev pub no_records : View
no_records = record { records = 0 }

-- what the answer lets a call see
abbrev pub view_in : Result Code.Table Refused → View
view_in (Ok t) = view_of t.view
view_in (Err r) = no_records

-- the answer is that the table passes
abbrev pub sound_in : Result Code.Table Refused → Bool
sound_in (Ok v) = true
sound_in (Err r) = false

-- the answer names the table's refusal, and lets a call see the whole table exactly where there is none
pub record Checked (t : List ℕ) (r : Result Code.Table Refused) : Type 0 where
  pub sound : sound_in r ≡ passes (table_refusal t)
  pub refusal : refusal_in r ≡ table_refusal t
  pub view : view_in r ≡ cond (passes (table_refusal t)) (whole_table t) no_records
  pub bytes : IfOk r (λ x. x.bytes.now ≡ t)

-- of the first n records, r is the first one whose subject is not less than a, or n where there is none
pub record FirstFrom (t : List ℕ) (n a r : ℕ) : Type 0 where
  pub within : r ≤ n
  pub lesser : (i : ℕ) → i < r → (fact_of (record_at t i)).subject < a
  pub others : (i : ℕ) → r ≤ i → i < n → a ≤ (fact_of (record_at t i)).subject
