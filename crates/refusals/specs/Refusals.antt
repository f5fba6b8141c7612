-- The number and the place of a refusal, and the refusal of an answer. Assumes nothing.
use Rattle.std.specs.Prelude.{List, ℕ, ◌+◌, Result, Ok, Err}
use Rattle.tsparql.specs.Check.{Refusal, refuse, no_refusal}
use Rattle.tsparql.specs.Rewrite.{Rewritten, wrote_nothing}
use Rattle.refusals.specs.declared.Refused.{Refused}
use Rattle.refusals.specs.declared.Refused.TheVariants as R

-- the number and the place by which document 01 and the requests name it
abbrev pub refusal_of : Refused → Refusal
refusal_of R.TableLength = refuse 1 0
refusal_of R.TooManyRecords = refuse 2 0
refusal_of (R.UnsoundRecord i) = refuse 3 i
refusal_of (R.RecordOrder i) = refuse 4 i
refusal_of R.QueryTooLong = refuse 5 0
refusal_of (R.QueryFault p) = refuse 6 p
refusal_of (R.VariableClash p) = refuse 7 p
refusal_of R.NoRoom = refuse 8 0
refusal_of (R.RewritingTooLong n) = refuse 9 n
refusal_of R.NoSuchVariable = refuse 10 0
refusal_of (R.TotalsTooLong n) = refuse 10 n
refusal_of (R.TextFault p) = refuse 11 p
refusal_of (R.QueryBytesTooLong n) = refuse 12 n

-- the refusal of an answer; none where it has a value
abbrev pub refusal_in : {A : Type 0} → Result A Refused → Refusal
refusal_in (Ok a) = no_refusal
refusal_in (Err r) = refusal_of r

-- refusal and length of an answer that writes an output, with the output at the end
abbrev pub written_in : Result ℕ Refused → List ℕ → Rewritten
written_in (Ok n) out = record { refusal = no_refusal; size = n; output = out }
written_in (Err r) out = wrote_nothing (refusal_of r) out

-- the place of a query's fault counted from so many bytes before; no other refusal has a place in the query's part
abbrev pub moved : ℕ → Refused → Refused
moved at (R.QueryFault p) = R.QueryFault (at + p)
moved at r = r
