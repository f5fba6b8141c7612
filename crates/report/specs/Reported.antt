-- An evaluation's answer beside its row space. Assumes nothing.
use Rattle.std.specs.Prelude.{◌≡◌, List, ℕ, ◌*◌, ◌≤◌, length}
use Rattle.tsparql.specs.Evaluate.{row_length}
use Rattle.randwyler.specs.declared.Evaluated.{Evaluated}

-- the rows of an answer that is no refusal stand in the row space
abbrev pub RowsFit : Evaluated → List ℕ → Type 0
RowsFit e ws = e.number ≡ 0 → row_length * e.rows ≤ length ws
