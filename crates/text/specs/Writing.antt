-- A buffer after bytes were written into it, and the parts of a line that Strikes does not name. Assumes nothing.
use Rattle.std.specs.Prelude.{◌≡◌, List, [], ℕ, ◌+◌, ◌-◌, min, length}
use Rattle.std.proofs.lemmas.List.Edits.{sets}
use Rattle.tsparql.specs.Lists.{concat_map}
use Rattle.tsparql.specs.Values.{Row, variables, cell_at}
use Rattle.tsparql.specs.Check.{no_refusal}
use Rattle.tsparql.specs.Evaluate.{Evaluated}
use Rattle.tsparql.specs.Strikes.{cell_text}
use Rattle.text.specs.declared.Page.{Page}

-- how many of n bytes fit into a buffer of so many from place `at` on
abbrev pub how_many_fit : ℕ → ℕ → ℕ → ℕ
how_many_fit n at room = min n (room - at)

-- the bytes stand from place `at` on, as far as they fit, all else is unchanged, and r is the place behind them
pub record Puts (bytes : List ℕ) (at : ℕ) (out out' : List ℕ) (r : ℕ) : Type 0 where
  pub buffer : out' ≡ sets out at bytes
  pub place : r ≡ at + how_many_fit (length bytes) at (length out)

-- q is p after the bytes were put on it
pub record Prints (bytes : List ℕ) (p q : Page) : Type 0 where
  pub puts : Puts bytes p.at p.bytes.now q.bytes.now q.at
  pub same : q.bytes.ghost_name ≡ p.bytes.ghost_name

-- the text of a row's set variables
abbrev pub cells_text : Row → List ℕ
cells_text r = concat_map (λ v. cell_text v (cell_at r.cells v)) variables

-- an answer with these counts
abbrev pub counted : ℕ → ℕ → ℕ → Evaluated
counted rows peak pairs = record { refusal = no_refusal; rows = rows; peak = peak; pairs = pairs; row_space = [] }
