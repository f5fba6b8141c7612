-- How long the texts are at most: numbers, trusts and cells, and the lines. Assumes nothing.
use mathlib.Core.Path.{◌≡◌, refl}
use mathlib.Core.Bool.{Bool, true, false, cond}
use mathlib.Core.List.{List, [], ◌∷◌, ◌++◌}
use Prim.Native.Nat.{ℕ, zero, suc, ◌-◌, ◌*◌, ◌/◌, ◌≤◌, ◌<◌, zero-le}
use native.Mathlib.Nat.{mul-suc}
use native.Mathlib.Omega.{arith}
use borrow.Author.Tests.{ltb-true, ltb-false}
use lib.Dec.{ltb}
use lib.ListN.{length, length-append}
use Rattle.tsparql.specs.Lists.{concat_map, Every}
use Rattle.tsparql.specs.Values.{Trust, known, unknown, Sound, Cell, free, term, trusted, Row, variables, cell_at}
use Rattle.tsparql.specs.Check.{Refusal}
use Rattle.tsparql.specs.Evaluate.{Evaluated}
use Rattle.tsparql.specs.Strikes.{ascii, decimal, thousandths, trust_text, value_text, cell_text, row_line, refused_line, counts_line}
use Rattle.tsparql.proofs.ListLaws.{every-up_from}
use Rattle.cells.specs.Words.{Formed}
use Rattle.rows.specs.RowWords.{RowFormed}
use Rattle.rows.proofs.OperatorLaws.{cell_at-formed}
use Rattle.text.proofs.WordText.{decimal-one, decimal-more}

-- ---- numbers

-- 1 and n zeros
abbrev power : ℕ → ℕ
power zero = 1
power (suc n) = 10 * power n

-- a number below 1 and k + 1 zeros has at most k + 1 digits
pub decimal-size : (k n : ℕ) → n < power (suc k) → length (decimal n) ≤ suc k
decimal-size zero n h = rw (decimal-one n (omega arith)) (omega arith)
decimal-size (suc k) n h = go (ltb n 10) refl (λ l. decimal-size k (n / 10) l)
  where
    go : (b : Bool) → ltb n 10 ≡ b → (n / 10 < power (suc k) → length (decimal (n / 10)) ≤ suc k) → length (decimal n) ≤ suc (suc k)
    go true e rest = rw (decimal-one n (ltb-true n 10 e)) (omega arith)
    go false e rest =
        let tenth : n / 10 < power (suc k) = omega arith in
        rw (decimal-more n (ltb-false n 10 e), length-append) (omega (arith, rest tenth))

-- ---- values

thousandths-size : (t : ℕ) → t ≤ 2000 → length (thousandths t) ≤ 5
unfolding ascii
thousandths-size t h = go (ltb t 1000) refl
  where
    go : (b : Bool) → ltb t 1000 ≡ b → length (cond b (ascii "-" ++ decimal (1000 - t)) (decimal (t - 1000))) ≤ 5
    go true e = omega (arith, decimal-size 3 (1000 - t) (omega arith))
    go false e = omega (arith, decimal-size 3 (t - 1000) (omega arith))

trust-size : (t : Trust) → Sound t → length (trust_text t) ≤ 5
unfolding ascii
trust-size (known t) h = thousandths-size t h
trust-size unknown h = omega arith

value-size : (c : Cell) → Formed c → length (value_text c) ≤ 7
unfolding ascii
value-size free h = omega arith
value-size (term a) h = decimal-size 6 a (omega arith)
value-size (trusted t) h = omega (arith, trust-size t h)

-- a variable's text with the value's
set-size : (v : ℕ) (c : Cell) → v < 16 → Formed c → length (ascii " ?" ++ (decimal v ++ (ascii "=" ++ value_text c))) ≤ 12
unfolding ascii
set-size v c h f =
    simp length-append (omega (arith, decimal-size 1 v (omega arith), value-size c f))

cell-size : (v : ℕ) (c : Cell) → v < 16 → Formed c → length (cell_text v c) ≤ 12
cell-size v free h f = omega arith
cell-size v (term a) h f = set-size v (term a) h f
cell-size v (trusted t) h f = set-size v (trusted t) h f

-- ---- lists of texts

pub concat_map-size : {A : Type 0} (f : A → List ℕ) (k : ℕ) (xs : List A) → Every (λ x. length (f x) ≤ k) xs
    → length (concat_map f xs) ≤ k * length xs
concat_map-size f k [] e = zero-le
concat_map-size f k (x ∷ xs) e =
    rw (length-append (f x) (concat_map f xs), mul-suc k (length xs)) (omega (arith, e.0, concat_map-size f k xs e.1))

-- ---- lines

line-size : (xs ys : List ℕ) → length xs ≤ 5 → length ys ≤ 12 * 16 → length (xs ++ (ys ++ ascii "\n")) ≤ 198
unfolding ascii
line-size xs ys h k = simp length-append (omega arith)

pub row-size : (r : Row) → RowFormed r → length (row_line r) ≤ 198
unfolding row_line
row-size r f =
    line-size (trust_text r.trust) (concat_map (λ v. cell_text v (cell_at r.cells v)) variables)
    (trust-size r.trust f.trust-sound)
    (concat_map-size (λ v. cell_text v (cell_at r.cells v)) 12 variables
    (every-up_from (λ v. length (cell_text v (cell_at r.cells v)) ≤ 12) 0 16
    (λ v l. cell-size v (cell_at r.cells v) (omega arith) (cell_at-formed r f v))))

pub refused-size : (r : Refusal) → r.number < 100 → r.place < 100000 → length (refused_line r) ≤ 20
unfolding refused_line ascii
refused-size r n p =
    simp length-append (omega (arith, decimal-size 1 r.number (omega arith), decimal-size 4 r.place (omega arith)))

pub counts-size : (e : Evaluated) → e.rows < 1000 → e.peak < 1000 → e.pairs < 100000000000000000000 → length (counts_line e) ≤ 45
unfolding counts_line ascii
counts-size e r p q =
    simp length-append
    (omega (
      arith,
      decimal-size 2 e.rows (omega arith),
      decimal-size 2 e.peak (omega arith),
      decimal-size 19 e.pairs (omega arith),
    ))
