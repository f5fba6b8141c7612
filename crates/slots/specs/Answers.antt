-- The answers of the readers of patterns, in the definitions' terms. Assumes nothing.
use Rattle.std.specs.Prelude.{Bool, ◌&&◌, List, ℕ, Result, Ok, Err}
use Rattle.tsparql.specs.Query as Query
use Rattle.tsparql.specs.Reading.{Read, got, fault, bits24, slot_sound, slot_of}
use Rattle.slots.specs.declared.Pattern.{Pattern}
use Rattle.refusals.specs.declared.Fault.{Fault}

-- a pattern by its slots' numbers
abbrev pub pattern_in : Pattern → Query.Pattern
pattern_in p = record { subject = slot_of p.subject; predicate = slot_of p.predicate; object = slot_of p.object }

-- the slots of a part's first 9 bytes
abbrev pub slots_at : List ℕ → Pattern
slots_at s = record { subject = bits24 s 0; predicate = bits24 s 3; object = bits24 s 6 }

-- each slot is a term or a variable
abbrev pub slots_sound : Pattern → Bool
slots_sound p = slot_sound p.subject && slot_sound p.predicate && slot_sound p.object

-- the pattern and the next place, or the fault
abbrev pub pattern_found : Result (Pattern × ℕ) Fault → Read Query.Pattern
pattern_found (Ok x) = got (pattern_in x.0) x.1
pattern_found (Err f) = fault f.0
