-- What a reader of a part of a query answers, in the definitions' terms. Assumes nothing.
use Rattle.std.specs.Prelude.{ℕ, Result, Ok, Err}
use Rattle.tsparql.specs.Reading.{Read, got, fault}
use Rattle.refusals.specs.declared.Fault.{Fault}

-- what was found and the next place, or the fault
abbrev pub found : {A : Type 0} → Result (A × ℕ) Fault → Read A
found (Ok x) = got x.0 x.1
found (Err f) = fault f.0

-- a place alone, or the fault
abbrev pub place_found : Result ℕ Fault → Read (Unit {0})
place_found (Ok n) = got tt n
place_found (Err f) = fault f.0
