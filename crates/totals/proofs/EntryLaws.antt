-- The entries of groups as words, set one by one; and the loop over all rows: the entries of the rows passed stand in front
-- (`Entering`). Assumes nothing.
use mathlib.Core.Path.{◌≡◌, refl, sym, ap, ap₂, ◌∙◌}
use mathlib.Core.Bool.{Bool, true, false, cond}
use mathlib.Core.List.{List, [], ◌∷◌, ◌++◌, map}
use Prim.Native.Nat.{ℕ, zero, suc, ◌+◌, ◌-◌, ◌*◌, ◌≤◌, ◌<◌}
use native.Mathlib.Nat.{not-suc-le-zero, le_refl}
use native.Mathlib.Omega.{arith}
use borrow.Author.Tests.{eqb-true, eqb-false, lt-leb, le-leb}
use lib.Dec.{eqb}
use lib.ListN.{length, drop, get_or, set, length-append, length-map, length-drop, length-set, get_or-append, get_or-map}
use lib.Seq.{drop-drop}
use Rattle.tsparql.specs.Lists.{concat_map, distinct_by}
use Rattle.tsparql.specs.Values.{Sound, free, Row, lesser, same_cell}
use Rattle.tsparql.specs.Evaluate.{row_length, cell_word, trust_word}
use Rattle.tsparql.specs.Totals.{Group, cell_of, rows_with, least_trust, group_of, groups, group_length, group_words, totals_words}
use Rattle.tsparql.proofs.ListLaws.{get_d_any, length-keep_if, concat_map-append}
use Rattle.tsparql.proofs.RowLaws.{SoundRow}
use Rattle.tsparql.proofs.TrustLaws.{sound-lesser-right}
use Rattle.tsparql.proofs.SumLaws.{length-distinct}
use Rattle.tsparql.proofs.TotalsLaws.{length-groups_words}
use Rattle.cells.specs.Words.{word_trust}
use Rattle.cells.proofs.WordLaws.{trust-written-read, trust-read-written, word_sound, cell-read-written}
use Rattle.rows.specs.RowWords.{row_at, word_of, rows_in, RowHeldAt, RowsHeld}
use Rattle.rows.proofs.RowWordLaws.{length-rows_in, rows_in-add, rows_in-suc, get_d-words_at, held-row}
use Rattle.rows.proofs.OperatorLaws.{held-at-cell-small, held-at-trust-small}
use Rattle.totals.specs.Numbers.{cells_in, NumberOf, Numbers}
use Rattle.totals.specs.Entries.{new_entry, more_entry, Addable, Added, entered, Entered}
use Rattle.totals.proofs.GroupLaws.{with_row, of_row, no_group, groups-new, groups-old, length-groups, groups-grow}
use Rattle.totals.proofs.NumberLaws.{cell-word}

-- ---- entries as words

module _ (rest : List ℕ) where
  -- the words of groups, with what stands behind them
  abbrev words : List Group → List ℕ
  words gs = concat_map group_words gs ++ rest

  -- the words of entry s
  words-at : (gs : List Group) (s j : ℕ) → s < length gs → j < group_length
      → get_or (words gs) (group_length * s + j) 0 ≡ get_or (group_words (get_or gs s no_group)) j 0
  words-at [] s j h k = absurd (not-suc-le-zero h)
  words-at (x ∷ gs) zero j h k =
      let e : group_length * 0 + j ≡ j = omega arith in
      rw e (get_or-append (group_words x) (concat_map group_words gs ++ rest) 0 j k)
  words-at (x ∷ gs) (suc s) j h k =
      let e : group_length * suc s + j ≡ suc (suc (suc (group_length * s + j))) = omega arith in rw e (words-at gs s j (omega arith) k)

  -- count and trust of entry s are set
  words-set : (gs : List Group) (s : ℕ) (y : Group) → s < length gs → y.cell ≡ (get_or gs s no_group).cell
      → set (set (words gs) (3 * s + 1) y.count) (3 * s + 2) (trust_word y.trust) ≡ words (set gs s y)
  words-set [] s y h e = absurd (not-suc-le-zero h)
  words-set (x ∷ gs) zero y h e = rw e
  words-set (x ∷ gs) (suc s) y h e =
      let d : 3 * suc s + 1 ≡ suc (suc (suc (3 * s + 1))) = omega arith in
      let f : 3 * suc s + 2 ≡ suc (suc (suc (3 * s + 2))) = omega arith in
      let k : ℕ → List ℕ → List ℕ = λ w ws. cell_word x.cell ∷ x.count ∷ w ∷ ws in
      rw (d, f) (ap (k (trust_word x.trust)) (words-set gs s y (omega arith) e))

-- three words behind a list are set
set-three : (xs ys : List ℕ) (a b c : ℕ) → 3 ≤ length ys
    → set (set (set (xs ++ ys) (length xs) a) (length xs + 1) b) (length xs + 2) c ≡ (xs ++ (a ∷ b ∷ c ∷ [])) ++ drop 3 ys
set-three [] [] a b c h = absurd (omega arith)
set-three [] (p ∷ []) a b c h = absurd (omega arith)
set-three [] (p ∷ q ∷ []) a b c h = absurd (omega arith)
set-three [] (p ∷ q ∷ r ∷ ys) a b c h = refl
set-three (x ∷ xs) ys a b c h =
    let d : suc (length xs) + 1 ≡ suc (length xs + 1) = omega arith in
    let e : suc (length xs) + 2 ≡ suc (length xs + 2) = omega arith in
    rw (d, e) (ap (λ (l : List ℕ). x ∷ l) (set-three xs ys a b c h))

-- ---- the loop over the rows

rows_grow : (u i n : ℕ) (ws : List ℕ) → i ≤ n → length (groups u (rows_in i ws)) ≤ length (groups u (rows_in n ws))
rows_grow u i n ws h =
    let e : n ≡ i + (n - i) = omega arith in
    let later = rows_in (n - i) (drop (row_length * i) ws) in
    let all : rows_in n ws ≡ rows_in i ws ++ later = ap (λ (m : ℕ). rows_in m ws) e ∙ rows_in-add i (n - i) ws in
    rw all (groups-grow u (rows_in i ws) later)

least_trust-sound : (rs : List Row) → Sound (least_trust rs)
unfolding least_trust
least_trust-sound [] = le_refl 2000
least_trust-sound (r ∷ rs) = sound-lesser-right r.trust (least_trust rs) (least_trust-sound rs)

-- after i of n rows: their entries stand at the front, k of them, and behind them nothing has changed
pub record Entering (u n : ℕ) (ws first : List ℕ) (i k : ℕ) (out : List ℕ) : Type 0 where
  pub within : i ≤ n
  pub count : k ≡ length (groups u (rows_in i ws))
  pub is : out ≡ concat_map group_words (groups u (rows_in i ws)) ++ drop (3 * k) first
  pub len : length out ≡ length first

pub entering-none : (u n : ℕ) (ws out : List ℕ) → Entering u n ws out 0 0 out
unfolding rows_in groups
entering-none u n ws out = record { within = omega arith; count = refl; is = refl; len = refl }

module _ {u n : ℕ} {ws first : List ℕ} {i k : ℕ} {out : List ℕ} (held : RowsHeld n ws) (inside : u < 16) (few : n ≤ 65535)
    (fits : length (totals_words u (rows_in n ws)) ≤ length first) (h : i < n) (a : Entering u n ws first i k out)
    {s : ℕ} (own : NumberOf (cells_in u i ws) (cell_of u (row_at i ws)) s) where
  abbrev rs : List Row
  rs = rows_in i ws

  abbrev r : Row
  r = row_at i ws

  abbrev gs : List Group
  gs = groups u rs

  abbrev rest : List ℕ
  rest = drop (3 * k) first

  places : k ≡ length (distinct_by same_cell (cells_in u i ws))
  places = a.count ∙ length-groups u rs

  rows_more : rows_in (i + 1) ws ≡ rs ++ (r ∷ [])
  rows_more = rows_in-suc i ws

  all_fit : (m : ℕ) → m ≤ n → 3 * length (groups u (rows_in m ws)) ≤ length first
  unfolding totals_words
  all_fit m l = omega (arith, fits, rows_grow u m n ws l, length-groups_words (groups u (rows_in n ws)))

  held_at : RowHeldAt i ws
  held_at = held-row n i ws held h

  -- the row's words
  cell-of : cell_word (cell_of u r) ≡ word_of u i ws
  cell-of = ap cell_word (cell-word u ws inside i) ∙ cell-read-written (word_of u i ws) (held-at-cell-small i ws held_at u inside)

  trust-is : r.trust ≡ word_trust (get_or ws (row_length * i + 16) 0)
  trust-is = ap word_trust (get_d-words_at i ws 16 (omega arith))

  trust-of : trust_word r.trust ≡ get_or ws (row_length * i + 16) 0
  trust-of = ap trust_word trust-is ∙ trust-read-written (get_or ws (row_length * i + 16) 0) (held-at-trust-small i ws held_at)

  sound-row : SoundRow r
  sound-row = rw trust-is (word_sound (get_or ws (row_length * i + 16) 0))

  -- ---- an entry that stands there

  module _ (less : s < k) where
    place : get_or (distinct_by same_cell (cells_in u i ws)) s free ≡ cell_of u r
    place = get_d_any (distinct_by same_cell (cells_in u i ws)) s free (cell_of u r) (omega (arith, places)) ∙ own.place

    group_at : get_or gs s no_group ≡ group_of u rs (cell_of u r)
    unfolding groups
    group_at =
        let long : s < length (map (group_of u rs) (distinct_by same_cell (cells_in u i ws))) = omega (arith, a.count) in
        get_d_any (map (group_of u rs) (distinct_by same_cell (cells_in u i ws))) s no_group (group_of u rs free) long
        ∙ get_or-map (group_of u rs) (distinct_by same_cell (cells_in u i ws)) s free
        ∙ ap (group_of u rs) place

    counted : get_or out (3 * s + 1) 0 ≡ length (rows_with u (cell_of u r) rs)
    counted = rw a.is (words-at rest gs s 1 (omega (arith, a.count)) (omega arith) ∙ ap (λ (x : Group). x.count) group_at)

    trusted : word_trust (get_or out (3 * s + 2) 0) ≡ (get_or gs s no_group).trust
    trusted =
        rw a.is
        (ap word_trust (words-at rest gs s 2 (omega (arith, a.count)) (omega arith))
        ∙ rw group_at (trust-written-read (least_trust (rows_with u (cell_of u r) rs)) (least_trust-sound (rows_with u (cell_of u r) rs))))

    count_small : get_or out (3 * s + 1) 0 < 4294967295
    count_small =
        omega (arith, counted, length-keep_if (λ x. same_cell (cell_of u r) (cell_of u x)) rs, length-rows_in i ws)

    more-entry : Entering u n ws first (i + 1) k (more_entry s (get_or ws (row_length * i + 16) 0) out)
    more-entry =
        let y = with_row r (get_or gs s no_group) in
        let groups-are : groups u (rows_in (i + 1) ws) ≡ set gs s y =
        ap (groups u) rows_more ∙ groups-old u rs r s (omega (arith, places)) place in
        let c : get_or out (3 * s + 1) 0 + 1 ≡ y.count =
        ap (λ (m : ℕ). m + 1) (counted ∙ sym (ap (λ (x : Group). x.count) group_at)) in
        let w = get_or ws (row_length * i + 16) 0 in
        let t : trust_word (lesser (word_trust (get_or out (3 * s + 2) 0)) (word_trust w)) ≡ trust_word y.trust =
        ap trust_word (ap₂ lesser trusted (sym trust-is)) in
        record {
          within = omega arith;
          count = rw (groups-are, length-set gs s y) a.count;
          is =
              rw (groups-are, c, t, a.is)
              (words-set rest gs s y (omega (arith, a.count)) refl);
          len =
              length-set (set out (3 * s + 1) (get_or out (3 * s + 1) 0 + 1)) (3 * s + 2) _
              ∙ length-set out (3 * s + 1) (get_or out (3 * s + 1) 0 + 1)
              ∙ a.len;
        }

  -- ---- a new entry

  module _ (next : s ≡ k) where
    new-groups : groups u (rows_in (i + 1) ws) ≡ gs ++ (of_row u r ∷ [])
    new-groups = ap (groups u) rows_more ∙ groups-new u rs r sound-row (own.fresh (next ∙ places))

    new-room : 3 * k + 3 ≤ length first
    new-room = omega (arith, all_fit (i + 1) (omega arith), ap length new-groups, length-append gs (of_row u r ∷ []), a.count)

    new-entry : Entering u n ws first (i + 1) (k + 1) (new_entry k (word_of u i ws) (get_or ws (row_length * i + 16) 0) out)
    new-entry =
        let x = word_of u i ws in
        let t = get_or ws (row_length * i + 16) 0 in
        let front = concat_map group_words gs in
        let long : length front ≡ 3 * k = length-groups_words gs ∙ ap (λ (m : ℕ). 3 * m) (sym a.count) in
        let wide : 3 ≤ length rest = omega (arith, length-drop (3 * k) first, new-room) in
        let three = rw long at (set-three front rest x 1 t wide) in
        let behind : drop 3 rest ≡ drop (3 * (k + 1)) first =
        let e : 3 * k + 3 ≡ 3 * (k + 1) = omega arith in drop-drop 3 (3 * k) first ∙ ap (λ (m : ℕ). drop m first) e in
        record {
          within = omega arith;
          count = rw new-groups (omega (arith, a.count, length-append gs (of_row u r ∷ [])));
          is =
              rw (new-groups, a.is)
              (three
              ∙ ap₂ (λ (w z : List ℕ). (front ++ w) ++ z) (ap₂ (λ (p q : ℕ). p ∷ 1 ∷ q ∷ []) (sym cell-of) (sym trust-of)) behind
              ∙ ap (λ (l : List ℕ). l ++ drop (3 * (k + 1)) first) (sym (concat_map-append group_words gs (of_row u r ∷ []))));
          len =
              length-set (set (set out (3 * k) x) (3 * k + 1) 1) (3 * k + 2) t
              ∙ length-set (set out (3 * k) x) (3 * k + 1) 1
              ∙ length-set out (3 * k) x
              ∙ a.len;
        }

  -- ---- both

  number-within : s ≤ k
  number-within = omega (arith, own.within, places)

  pub entering-addable : Addable k s out
  entering-addable =
      record { within = number-within; room = go (eqb s k) refl; small = count_small }
    where
      go : (b : Bool) → eqb s k ≡ b → 3 * s + 3 ≤ length out
      go true e = let same = eqb-true s k e in omega (arith, new-room same, a.len)
      go false e =
          let differ = eqb-false s k e in
          let less : s < k = omega (arith, number-within) in
          omega (arith, all_fit i (omega arith), a.count, a.len)

  pub entering-more : (k' : ℕ) (out' : List ℕ) → Added k s (word_of u i ws) (get_or ws (row_length * i + 16) 0) out out' k'
      → Entering u n ws first (i + 1) k' out'
  entering-more k' out' d = go (eqb s k) refl d.count d.words
    where
      x : ℕ
      x = word_of u i ws

      t : ℕ
      t = get_or ws (row_length * i + 16) 0

      go : (b : Bool) → eqb s k ≡ b → k' ≡ cond b (k + 1) k → out' ≡ cond b (new_entry k x t out) (more_entry s t out)
          → Entering u n ws first (i + 1) k' out'
      go true e f g = rw (f, g) (new-entry (eqb-true s k e))
      go false e f g =
          let differ = eqb-false s k e in
          let less : s < k = omega (arith, number-within) in
          rw (f, g) (more-entry less)

pub entering-all : {u n : ℕ} {ws first : List ℕ} {i k : ℕ} {out : List ℕ} → Entering u n ws first i k out → n ≤ i
    → out ≡ entered u (rows_in n ws) first
unfolding totals_words
entering-all {u} {n} {ws} {first} {i} {k} {out} a h =
    let e : i ≡ n = omega (arith, a.within) in
    let is = rw e at a.is in
    let long : 3 * k ≡ length (concat_map group_words (groups u (rows_in n ws))) =
    ap (λ (m : ℕ). 3 * m) (rw e at a.count) ∙ sym (length-groups_words (groups u (rows_in n ws))) in
    is ∙ ap (λ (m : ℕ). concat_map group_words (groups u (rows_in n ws)) ++ drop m first) long

-- ---- how many words

module _ {u n : ℕ} {ws numbers : List ℕ} {k : ℕ} (a : Numbers u n ws numbers k) where
  pub numbers-few : k ≤ n
  numbers-few =
      omega (arith, a.count, length-distinct same_cell (cells_in u n ws), length-map (rows_in n ws) (cell_of u), length-rows_in n ws)

  pub numbers-size : 3 * k ≡ length (totals_words u (rows_in n ws))
  unfolding totals_words
  numbers-size = omega (arith, a.count, length-groups u (rows_in n ws), length-groups_words (groups u (rows_in n ws)))

  -- the entries do not fit
  pub entered-short : (out : List ℕ) → length out < 3 * k → Entered u (rows_in n ws) out out (3 * k)
  entered-short out h =
      let size = numbers-size in
      record { size = size; output = rw (lt-leb (length (totals_words u (rows_in n ws))) (length out) (omega arith)) }

  -- they do, and are written
  pub entered_all : (out out' : List ℕ) → 3 * k ≤ length out
      → out' ≡ entered u (rows_in n ws) out → Entered u (rows_in n ws) out out' (3 * k)
  entered_all out out' h e =
      let size = numbers-size in
      record { size = size; output = rw (le-leb (length (totals_words u (rows_in n ws))) (length out) (omega arith)) e }
