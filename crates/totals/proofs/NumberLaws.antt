-- Numbering rows by their cells: words and cells; one row more; and the loop over all rows (`NumberedTo`). Assumes nothing.
use mathlib.Core.Path.{◌≡◌, refl, sym, ap, ◌∙◌}
use mathlib.Core.Bool.{Bool, true, false}
use mathlib.Core.List.{List, [], ◌∷◌, ◌++◌}
use Prim.Native.Nat.{ℕ, ◌+◌, ◌≤◌, ◌<◌}
use native.Mathlib.Nat.{not-suc-le-zero}
use native.Mathlib.Omega.{arith}
use borrow.Author.Tests.{eqb-true, eqb-false, ne_eqb}
use Rattle.std.specs.Prelude.{Some, None}
use lib.Dec.{eqb}
use lib.ListN.{length, get_or, set, length-append, length-map, length-set, get_or-append, get_or-eq_default, get_or-map}
use lib.Seq.{get_or-set_same, get_or-set_other, get_or_at}
use Rattle.tsparql.specs.Lists.{any_pass, distinct_by}
use Rattle.tsparql.specs.Values.{Cell, free, same_cell}
use Rattle.tsparql.specs.Evaluate.{cell_word}
use Rattle.tsparql.specs.Totals.{cell_of}
use Rattle.tsparql.proofs.ListLaws.{get_d_any, every-each, any_pass-none, any_pass-at, map-append}
use Rattle.tsparql.proofs.SumLaws.{distinct-old, distinct-new}
use Rattle.tsparql.proofs.Cardinalities.{same_cell-true, same_cell-refl, cell_same}
use Rattle.cells.specs.Words.{word_cell}
use Rattle.cells.proofs.WordLaws.{cell-read-written}
use Rattle.rows.specs.RowWords.{words_at, row_at, word_of, rows_in, RowsHeld}
use Rattle.rows.proofs.RowWordLaws.{length-rows_in, rows_in-suc, get_d-rows_in, cell_at-row_in, get_d-words_at, held-row}
use Rattle.rows.proofs.OperatorLaws.{held-at-cell-small}
use Rattle.totals.specs.Numbers.{cells_in, FoundBefore, NumberOf, Numbered}
use Rattle.totals.specs.Chains.{Chained}

-- ---- words and cells

-- cells are the same exactly where their words are
pub same_word : (x y : ℕ) → x ≤ 1050577 → y ≤ 1050577 → same_cell (word_cell x) (word_cell y) ≡ eqb x y
same_word x y h k = go (eqb x y) refl
  where
    differ : (x ≡ y → ⊥) → (b : Bool) → same_cell (word_cell x) (word_cell y) ≡ b → b ≡ false
    differ d true e =
        absurd (d (sym (cell-read-written x h) ∙ ap cell_word (same_cell-true (word_cell x) (word_cell y) e) ∙ cell-read-written y k))
    differ d false e = refl

    go : (b : Bool) → eqb x y ≡ b → same_cell (word_cell x) (word_cell y) ≡ b
    go true e = rw (eqb-true x y e) (same_cell-refl (word_cell y))
    go false e = differ (eqb-false x y e) (same_cell (word_cell x) (word_cell y)) refl

-- the cell of a row, by its word
pub cell-word : (u : ℕ) (ws : List ℕ) → u < 16 → (i : ℕ) → cell_of u (row_at i ws) ≡ word_cell (word_of u i ws)
cell-word u ws inside i = cell_at-row_in (words_at i ws) u inside ∙ ap word_cell (get_d-words_at i ws u (omega arith))

cells_in-more : (u : ℕ) (ws : List ℕ) (i : ℕ) → cells_in u (i + 1) ws ≡ cells_in u i ws ++ (cell_of u (row_at i ws) ∷ [])
cells_in-more u ws i = rw (rows_in-suc i ws) (map-append (cell_of u) (rows_in i ws) (row_at i ws ∷ []))

-- ---- the different cells, one more

-- what stood there stays at its place
distinct-stays : (cs : List Cell) (c : Cell) (s : ℕ) (d e : Cell) → s < length (distinct_by same_cell cs)
    → get_or (distinct_by same_cell cs) s d ≡ e
    → (s < length (distinct_by same_cell (cs ++ (c ∷ [])))) × (get_or (distinct_by same_cell (cs ++ (c ∷ []))) s d ≡ e)
distinct-stays cs c s d e h k = go (any_pass (same_cell c) cs) refl
  where
    go : (b : Bool) → any_pass (same_cell c) cs ≡ b
        → (s < length (distinct_by same_cell (cs ++ (c ∷ [])))) × (get_or (distinct_by same_cell (cs ++ (c ∷ []))) s d ≡ e)
    go true f = rw (distinct-old same_cell cell_same cs c f) (h, k)
    go false f =
        let ds = distinct_by same_cell cs in
        rw (distinct-new same_cell cell_same cs c f) (omega (arith, length-append ds (c ∷ [])), get_or-append ds (c ∷ []) d s h ∙ k)

-- ---- one row more

-- the first i rows are numbered, and k numbers are in use: how it went, and where each number stands now
pub record Numbering (u : ℕ) (ws numbers : List ℕ) (i k : ℕ) : Type 0 where
  pub count : k ≡ length (distinct_by same_cell (cells_in u i ws))
  pub few : k ≤ i
  pub each : Numbered u i ws numbers
  pub now : (m : ℕ) → m < i
      → (get_or numbers m 0 < k) × (get_or (distinct_by same_cell (cells_in u i ws)) (get_or numbers m 0) free ≡ cell_of u (row_at m ws))

pub numbering-none : (u : ℕ) (ws numbers : List ℕ) → Numbering u ws numbers 0 0
unfolding rows_in
numbering-none u ws numbers =
    record { count = refl; few = omega arith; each = λ i h. absurd (not-suc-le-zero h); now = λ i h. absurd (not-suc-le-zero h) }

module _ {u : ℕ} {ws numbers : List ℕ} {i k : ℕ} (n : ℕ) (held : RowsHeld n ws) (inside : u < 16) (h : i < n)
    (room : i < length numbers) (a : Numbering u ws numbers i k) where
  abbrev cs : List Cell
  cs = cells_in u i ws

  abbrev c : Cell
  c = cell_of u (row_at i ws)

  length-cells : length cs ≡ i
  length-cells = length-map (rows_in i ws) (cell_of u) ∙ length-rows_in i ws

  cell_at : (m : ℕ) → m < i → get_or cs m free ≡ cell_of u (row_at m ws)
  cell_at m l =
      let d = row_at m ws in
      let long : m < length cs = rw length-cells l in
      get_d_any cs m free (cell_of u d) long ∙ get_or-map (cell_of u) (rows_in i ws) m d ∙ ap (cell_of u) (get_d-rows_in i ws m d l)

  small : (m : ℕ) → m < n → word_of u m ws ≤ 1050577
  small m l = held-at-cell-small m ws (held-row n m ws held l) u inside

  -- a number for row i, and how many are in use then
  module _ (s : ℕ) where
    abbrev next : List ℕ
    next = set numbers i s

    next-old : (m : ℕ) → m < i → get_or next m 0 ≡ get_or numbers m 0
    next-old m l = get_or-set_other numbers i m s 0 (λ e. omega arith)

    next-own : get_or next i 0 ≡ s
    next-own = get_or-set_same numbers i s 0 room

    -- what is told of row i, with what was told of those before
    grown : NumberOf cs c s → (k' : ℕ) → k' ≡ length (distinct_by same_cell (cs ++ (c ∷ []))) → k' ≤ i + 1 → k ≤ k' → s < k'
        → get_or (distinct_by same_cell (cs ++ (c ∷ []))) s free ≡ c → Numbering u ws next (i + 1) k'
    grown own k' e few more l p =
        let cells = cells_in-more u ws i in
        record {
          count = rw cells e;
          few = few;
          each = λ m b. told m b (eqb m i) refl;
          now = λ m b. rw cells (stands m b (eqb m i) refl);
        }
      where
        told : (m : ℕ) → m < i + 1 → (t : Bool) → eqb m i ≡ t → NumberOf (cells_in u m ws) (cell_of u (row_at m ws)) (get_or next m 0)
        told m b true e = rw (eqb-true m i e, next-own) own
        told m b false e = let d = eqb-false m i e in let l : m < i = omega arith in rw (next-old m l) (a.each m l)

        stands : (m : ℕ) → m < i + 1 → (t : Bool) → eqb m i ≡ t
            → (get_or next m 0 < k') × (get_or (distinct_by same_cell (cs ++ (c ∷ []))) (get_or next m 0) free ≡ cell_of u (row_at m ws))
        stands m b true e = rw (eqb-true m i e, next-own) (l, p)
        stands m b false e =
            let d = eqb-false m i e in
            let l : m < i = omega arith in
            let old = a.now m l in
            let kept = distinct-stays cs c (get_or numbers m 0) free (cell_of u (row_at m ws)) (omega (arith, old.0, a.count)) old.1 in
            rw (next-old m l) (omega (arith, old.0), kept.1)

  -- the next number, where no row before has the cell
  numbering-new : ((m : ℕ) → m < i → word_of u m ws ≡ word_of u i ws → ⊥) → Numbering u ws (set numbers i k) (i + 1) (k + 1)
  numbering-new none =
      let other = every-each (λ d. same_cell c d ≡ false) cs free (λ m l. differs m (rw length-cells at l)) in
      let fresh : any_pass (same_cell c) cs ≡ false = any_pass-none (same_cell c) cs other in
      let more = distinct-new same_cell cell_same cs c fresh in
      let long = length-append (distinct_by same_cell cs) (c ∷ []) in
      grown k
      (record {
        within = omega (arith, a.count);
        place = get_or-eq_default (distinct_by same_cell cs) c (omega (arith, a.count));
        fresh = λ _. fresh;
      })
      (k + 1)
      (rw more (omega (arith, long, a.count)))
      (omega (arith, a.few))
      (omega arith)
      (omega arith)
      (rw more (get_or_at (distinct_by same_cell cs) c [] free k (sym a.count)))
    where
      differs : (m : ℕ) → m < i → same_cell c (get_or cs m free) ≡ false
      differs m l =
          rw (cell_at m l, cell-word u ws inside m, cell-word u ws inside i)
          (same_word (word_of u i ws) (word_of u m ws) (small i h) (small m (omega arith))
          ∙ ne_eqb (word_of u i ws) (word_of u m ws) (λ e. none m l (sym e)))

  -- the number of a row before that has the cell
  numbering-old : (m : ℕ) → m < i → word_of u m ws ≡ word_of u i ws → Numbering u ws (set numbers i (get_or numbers m 0)) (i + 1) k
  numbering-old m l e =
      let same : cell_of u (row_at m ws) ≡ c = cell-word u ws inside m ∙ ap word_cell e ∙ sym (cell-word u ws inside i) in
      let old = a.now m l in
      let s = get_or numbers m 0 in
      let long : m < length cs = rw length-cells l in
      let here : any_pass (same_cell c) cs ≡ true = any_pass-at (same_cell c) cs m free long (rw (cell_at m l ∙ same) (same_cell-refl c)) in
      let lt : s < length (distinct_by same_cell cs) = omega (arith, old.0, a.count) in
      let more = distinct-old same_cell cell_same cs c here in
      grown s
      (record {
        within = omega arith;
        place = get_d_any (distinct_by same_cell cs) s c free lt ∙ old.1 ∙ same;
        fresh = λ z. absurd (omega arith);
      })
      k
      (rw more a.count)
      (omega (arith, a.few))
      (omega arith)
      old.0
      (rw more (old.1 ∙ same))

-- ---- the loop

-- after i of n rows: they are numbered, and chained
pub record NumberedTo (u n : ℕ) (ws first : List ℕ) (i k : ℕ) (numbers heads links : List ℕ) : Type 0 where
  pub within : i ≤ n
  pub len : length numbers ≡ length first
  pub is : Numbering u ws numbers i k
  pub chains : Chained u i ws heads links

pub numbered-none : (u n : ℕ) (ws numbers heads links : List ℕ) → Chained u 0 ws heads links
    → NumberedTo u n ws numbers 0 0 numbers heads links
numbered-none u n ws numbers heads links c =
    record { within = omega arith; len = refl; is = numbering-none u ws numbers; chains = c }

module _ {u n : ℕ} {ws first : List ℕ} {i k : ℕ} {numbers heads links : List ℕ} where
  module _ (held : RowsHeld n ws) (inside : u < 16) (h : i < n) (room : n ≤ length first) (a : NumberedTo u n ws first i k numbers heads links)
      {heads' links' : List ℕ} (c : Chained u (i + 1) ws heads' links') where
    -- a row before has its cell
    pub numbered_old : (m : ℕ) → FoundBefore u i (word_of u i ws) ws (Some m)
        → NumberedTo u n ws first (i + 1) k (set numbers i (get_or numbers m 0)) heads' links'
    numbered_old m f =
        record {
          within = omega arith;
          len = length-set numbers i (get_or numbers m 0) ∙ a.len;
          is = numbering-old n held inside h (omega (arith, a.len)) a.is m f.0 f.1;
          chains = c;
        }

    -- none has
    pub numbered_new : FoundBefore u i (word_of u i ws) ws None → NumberedTo u n ws first (i + 1) (k + 1) (set numbers i k) heads' links'
    numbered_new f =
        record {
          within = omega arith;
          len = length-set numbers i k ∙ a.len;
          is = numbering-new n held inside h (omega (arith, a.len)) a.is f;
          chains = c;
        }
