-- What else a head says, and the place of a fault. Assumes nothing.
use Rattle.std.specs.Prelude.{ℕ}
use Rattle.tsparql.specs.Reading.{Read, got, fault}
use Rattle.heads.specs.declared.Head.{Head}
use Rattle.heads.specs.declared.Head.TheVariants as H

-- the place of a fault; 0 where there is none
abbrev pub fault_in : {A : Type 0} → Read A → ℕ
fault_in (got a n) = 0
fault_in (fault p) = p

-- how many patterns a head has
abbrev pub pattern_count : Head → ℕ
pattern_count (H.PatternSet n) = n
pattern_count H.Join = 0
pattern_count H.LeftJoin = 0
pattern_count H.Union = 0
pattern_count H.Filter = 0
pattern_count (H.ProjectTrust v) = 0
pattern_count (H.EnsureTrust l u) = 0
