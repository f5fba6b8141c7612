-- The rows of a row space numbered by their cell of a variable: equal cells have equal numbers, counted in order of first appearance.
-- Assumes nothing.
use Rattle.std.specs.Prelude.{◌≡◌, false, List, map, Option, Some, None, ℕ, ◌≤◌, ◌<◌, length, get_or}
use Rattle.tsparql.specs.Lists.{any_pass, distinct_by}
use Rattle.tsparql.specs.Values.{Cell, same_cell}
use Rattle.tsparql.specs.Totals.{cell_of}
use Rattle.rows.specs.RowWords.{row_at, word_of, rows_in}

-- the cells of variable u in the first n rows
abbrev pub cells_in : ℕ → ℕ → List ℕ → List Cell
cells_in u n ws = map (cell_of u) (rows_in n ws)

-- a row before row i that has the word x for variable u; none where there is none
abbrev pub FoundBefore : ℕ → ℕ → ℕ → List ℕ → Option ℕ → Type 0
FoundBefore u i x ws (Some m) = (m < i) × (word_of u m ws ≡ x)
FoundBefore u i x ws None = (m : ℕ) → m < i → word_of u m ws ≡ x → ⊥

-- s is the number of a cell c that comes after the cells cs: the place of c among the different ones, or the next place
pub record NumberOf (cs : List Cell) (c : Cell) (s : ℕ) : Type 0 where
  pub within : s ≤ length (distinct_by same_cell cs)
  pub place : get_or (distinct_by same_cell cs) s c ≡ c
  pub fresh : s ≡ length (distinct_by same_cell cs) → any_pass (same_cell c) cs ≡ false

-- every one of the first n rows has its number
abbrev pub Numbered : ℕ → ℕ → List ℕ → List ℕ → Type 0
Numbered u n ws numbers = (i : ℕ) → i < n → NumberOf (cells_in u i ws) (cell_of u (row_at i ws)) (get_or numbers i 0)

-- the rows are numbered, and r is how many different cells they have
pub record Numbers (u n : ℕ) (ws numbers : List ℕ) (r : ℕ) : Type 0 where
  pub count : r ≡ length (distinct_by same_cell (cells_in u n ws))
  pub each : Numbered u n ws numbers
