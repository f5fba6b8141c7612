-- The text of a row's cells and of rows, one more at a time. Assumes nothing.
use mathlib.Core.Path.{◌≡◌, ap, ◌∙◌}
use mathlib.Core.List.{List, [], ◌∷◌, ◌++◌, append-nil}
use Prim.Native.Nat.{ℕ, zero, suc, ◌+◌, ◌<◌}
use native.Mathlib.Numerals.{add-one}
use native.Mathlib.Omega.{arith}
use lib.ListN.{get_or}
use Rattle.tsparql.specs.Lists.{concat_map, up_from}
use Rattle.tsparql.specs.Values.{cell_at}
use Rattle.tsparql.specs.Strikes.{cell_text, row_line}
use Rattle.tsparql.proofs.ListLaws.{concat_map-append}
use Rattle.cells.specs.Words.{word_cell}
use Rattle.rows.specs.RowWords.{row_in, row_at, rows_in}
use Rattle.rows.proofs.RowWordLaws.{cell_at-row_in, rows_in-suc}
use Rattle.text.specs.declared.Page.{Page}
use Rattle.text.specs.Writing.{Prints}
use Rattle.text.proofs.WritingLaws.{prints_then}

-- one number more
up_from-suc : (i n : ℕ) → up_from i (suc n) ≡ up_from i n ++ ((i + n) ∷ [])
up_from-suc i zero = let e : i + 0 ≡ i = omega arith in rw e
up_from-suc i (suc n) =
    let e : i + suc n ≡ suc i + n = omega arith in
    ap (λ (l : List ℕ). i ∷ l) (up_from-suc (suc i) n ∙ rw e)

-- the text of one element more
prints-snoc : {A : Type 0} (f : A → List ℕ) (xs : List A) (x : A) {p q r : Page}
    → Prints (concat_map f xs) p q → Prints (f x) q r → Prints (concat_map f (xs ++ (x ∷ []))) p r
prints-snoc f xs x a b =
    rw (concat_map-append f xs (x ∷ []), append-nil (f x)) (prints_then a b)

-- ---- cells

-- the text of the first n variables of a row of words
abbrev pub cells_below : List ℕ → ℕ → List ℕ
cells_below row n = concat_map (λ v. cell_text v (cell_at (row_in row).cells v)) (up_from 0 n)

pub cells-more : (row : List ℕ) (v : ℕ) {p q r : Page} → Prints (cells_below row v) p q → v < 16
    → Prints (cell_text v (word_cell (get_or row v 0))) q r → Prints (cells_below row (v + 1)) p r
cells-more row v a h b =
    let e : 0 + v ≡ v = omega arith in
    let more : up_from 0 (v + 1) ≡ up_from 0 v ++ (v ∷ []) = rw add-one (up_from-suc 0 v ∙ rw e) in
    rw more (prints-snoc (λ u. cell_text u (cell_at (row_in row).cells u)) (up_from 0 v) v a (rw (cell_at-row_in row v h) b))

-- ---- rows

pub rows_more : (n : ℕ) (ws : List ℕ) {p q r : Page}
    → Prints (concat_map row_line (rows_in n ws)) p q → Prints (row_line (row_at n ws)) q r
    → Prints (concat_map row_line (rows_in (n + 1) ws)) p r
rows_more n ws a b = rw rows_in-suc (prints-snoc row_line (rows_in n ws) (row_at n ws) a b)
