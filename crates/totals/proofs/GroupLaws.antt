-- Groups of rows, a row more: a new group behind the others (`groups-new`), or one group with a row more (`groups-old`). Assumes nothing.
use mathlib.Core.Path.{◌≡◌, refl, sym, ap, ap₂, ◌∙◌}
use mathlib.Core.Bool.{Bool, true, false, not, or-true}
use mathlib.Core.List.{List, [], ◌∷◌, ◌++◌, map, append-nil}
use Prim.Native.Nat.{ℕ, zero, suc, ◌+◌, ◌≤◌, ◌<◌}
use native.Mathlib.Nat.{not-suc-le-zero}
use native.Mathlib.Omega.{arith}
use borrow.Author.Tests.{not-true}
use lib.ListN.{length, get_or, set, length-append, length-map}
use Rattle.tsparql.specs.Lists.{Every, cons_if, keep_if, any_pass, distinct_by}
use Rattle.tsparql.specs.Values.{Trust, unknown, Cell, free, Row, lesser, same_cell}
use Rattle.tsparql.specs.Totals.{Group, cell_of, different_cells, rows_with, least_trust, group_of, groups}
use Rattle.tsparql.proofs.ListLaws.{every-weaken, every-at, every-keep_if, any_pass-fails, any_pass-map, keep_if-append, keep_if-none}
use Rattle.tsparql.proofs.ListLaws.{keep_if-passes, map-append}
use Rattle.tsparql.proofs.SumLaws.{same-sym, every-distinct, distinct-old, distinct-new, distinct-grow}
use Rattle.tsparql.proofs.TrustLaws.{lesser-assoc, lesser-top, lesser-comm-top}
use Rattle.tsparql.proofs.Cardinalities.{same_cell-refl, cell_same}
use Rattle.tsparql.proofs.RowLaws.{SoundRow}

-- ---- trusts

least_trust-more : (rs : List Row) (r : Row) → least_trust (rs ++ (r ∷ [])) ≡ lesser (least_trust rs) r.trust
unfolding least_trust
least_trust-more [] r = lesser-comm-top r.trust
least_trust-more (x ∷ rs) r =
    ap (lesser x.trust) (least_trust-more rs r) ∙ lesser-assoc x.trust (least_trust rs) r.trust

-- ---- one group, a row more

-- the group with a row more
abbrev pub with_row : Row → Group → Group
with_row r x = record { cell = x.cell; count = x.count + 1; trust = lesser x.trust r.trust }

-- the group of one row
abbrev pub of_row : ℕ → Row → Group
of_row u r = record { cell = cell_of u r; count = 1; trust = r.trust }

-- what stands in for a group behind the end
abbrev pub no_group : Group
no_group = record { cell = free; count = 0; trust = unknown }

module _ (u : ℕ) (rs : List Row) (r : Row) where
  abbrev c : Cell
  c = cell_of u r

  abbrev rs' : List Row
  rs' = rs ++ (r ∷ [])

  rows_with-more : (d : Cell) → rows_with u d rs' ≡ rows_with u d rs ++ cons_if (same_cell d c) r []
  rows_with-more d = keep_if-append (λ x. same_cell d (cell_of u x)) rs (r ∷ [])

  group-same : (d : Cell) → same_cell d c ≡ true → group_of u rs' d ≡ with_row r (group_of u rs d)
  group-same d e =
      let more : rows_with u d rs' ≡ rows_with u d rs ++ (r ∷ []) = rows_with-more d ∙ rw e in
      rw (more, length-append (rows_with u d rs) (r ∷ []), least_trust-more (rows_with u d rs) r)

  group-other : (d : Cell) → same_cell d c ≡ false → group_of u rs' d ≡ group_of u rs d
  group-other d e =
      let same : rows_with u d rs' ≡ rows_with u d rs = rows_with-more d ∙ rw e (append-nil (rows_with u d rs)) in rw same

  map_other : (ds : List Cell) → Every (λ d. same_cell d c ≡ false) ds → map (group_of u rs') ds ≡ map (group_of u rs) ds
  map_other [] e = refl
  map_other (d ∷ ds) e = ap₂ (λ (x : Group) (xs : List Group). x ∷ xs) (group-other d e.0) (map_other ds e.1)

-- ---- the different cells

every-among : (cs : List Cell) → Every (λ d. any_pass (same_cell d) cs ≡ true) cs
every-among [] = tt
every-among (c ∷ cs) =
    (rw (same_cell-refl c), every-weaken (λ d h. rw h (or-true (same_cell d c))) cs (every-among cs))

-- no cell stands twice
abbrev Once : List Cell → Type 0
Once [] = Unit {0}
Once (c ∷ cs) = Every (λ d. same_cell c d ≡ false) cs × Once cs

once-keep_if : (p : Cell → Bool) (cs : List Cell) → Once cs → Once (keep_if p cs)
once-keep_if p [] o = tt
once-keep_if p (c ∷ cs) o = go (p c) (once-keep_if p cs o.1)
  where
    go : (b : Bool) → Once (keep_if p cs) → Once (cons_if b c (keep_if p cs))
    go true k = (every-keep_if (λ d. same_cell c d ≡ false) p cs o.0, k)
    go false k = k

distinct-once : (cs : List Cell) → Once (distinct_by same_cell cs)
distinct-once [] = tt
distinct-once (c ∷ cs) =
    let ds = distinct_by same_cell cs in
    let p : Cell → Bool = λ d. not (same_cell c d) in
    (every-weaken (λ d h. not-true (same_cell c d) h) (keep_if p ds) (keep_if-passes p ds), once-keep_if p ds (distinct-once cs))

-- ---- groups, a row more

module _ (u : ℕ) (rs : List Row) (r : Row) where
  abbrev cs : List Cell
  cs = map (cell_of u) rs

  abbrev own : Cell
  own = cell_of u r

  cells-more : map (cell_of u) (rs ++ (r ∷ [])) ≡ cs ++ (own ∷ [])
  cells-more = map-append (cell_of u) rs (r ∷ [])

  -- a cell that no row had
  pub groups-new : SoundRow r → any_pass (same_cell own) cs ≡ false → groups u (rs ++ (r ∷ [])) ≡ groups u rs ++ (of_row u r ∷ [])
  unfolding groups least_trust
  groups-new sound e =
      let f = group_of u (rs ++ (r ∷ [])) in
      let has : Row → Bool = λ x. same_cell own (cell_of u x) in
      let none : rows_with u own rs ≡ [] =
      keep_if-none has rs (any_pass-fails has rs (sym (any_pass-map (same_cell own) (cell_of u) rs) ∙ e)) in
      let last : f own ≡ of_row u r =
      group-same u rs r own (same_cell-refl own)
      ∙ rw none (ap (λ (t : Trust). record { cell = own; count = 1; trust = t }) (lesser-top r.trust sound)) in
      let other : Every (λ d. same_cell d own ≡ false) cs =
      every-weaken (λ d h. same-sym same_cell cell_same d own ∙ h) cs (any_pass-fails (same_cell own) cs e) in
      ap (map f) (ap (distinct_by same_cell) cells-more ∙ distinct-new same_cell cell_same cs own e)
      ∙ map-append f (distinct_by same_cell cs) (own ∷ [])
      ∙ ap₂ (λ (xs : List Group) (x : Group). xs ++ (x ∷ []))
      (map_other u rs r (distinct_by same_cell cs) (every-distinct same_cell (λ d. same_cell d own ≡ false) cs other))
      last

  -- a cell that stands at a place of the different ones
  pub groups-old : (s : ℕ) → s < length (different_cells u rs) → get_or (different_cells u rs) s free ≡ own
      → groups u (rs ++ (r ∷ [])) ≡ set (groups u rs) s (with_row r (get_or (groups u rs) s no_group))
  unfolding groups
  groups-old s h e =
      let here : any_pass (same_cell own) cs ≡ true =
      rw e
      at (every-at (λ d. any_pass (same_cell d) cs ≡ true) (distinct_by same_cell cs) s free h
      (every-distinct same_cell (λ d. any_pass (same_cell d) cs ≡ true) cs (every-among cs))) in
      ap (map (group_of u (rs ++ (r ∷ [])))) (ap (distinct_by same_cell) cells-more ∙ distinct-old same_cell cell_same cs own here)
      ∙ at_place (distinct_by same_cell cs) s (distinct-once cs) h e
    where
      at_place : (ds : List Cell) (s : ℕ) → Once ds → s < length ds → get_or ds s free ≡ own
          → map (group_of u (rs ++ (r ∷ []))) ds ≡ set (map (group_of u rs) ds) s (with_row r (get_or (map (group_of u rs) ds) s no_group))
      at_place [] s o h e = absurd (not-suc-le-zero h)
      at_place (d ∷ ds) zero o h e =
          let is : d ≡ own = e in
          let same : same_cell d own ≡ true = rw is (same_cell-refl own) in
          ap₂ (λ (x : Group) (xs : List Group). x ∷ xs) (group-same u rs r d same)
          (map_other u rs r ds (every-weaken (λ x k. same-sym same_cell cell_same x own ∙ rw is at k) ds o.0))
      at_place (d ∷ ds) (suc s) o h e =
          let l : s < length ds = omega arith in
          let other : same_cell d own ≡ false = rw e at (every-at (λ x. same_cell d x ≡ false) ds s free l o.0) in
          ap₂ (λ (x : Group) (xs : List Group). x ∷ xs) (group-other u rs r d other) (at_place ds s o.1 l e)

-- ---- how many

pub length-groups : (u : ℕ) (rs : List Row) → length (groups u rs) ≡ length (different_cells u rs)
unfolding groups
length-groups u rs = length-map (different_cells u rs) (group_of u rs)

-- more rows have no fewer groups
pub groups-grow : (u : ℕ) (rs qs : List Row) → length (groups u rs) ≤ length (groups u (rs ++ qs))
groups-grow u rs qs =
    let grow = distinct-grow same_cell cell_same (map (cell_of u) rs) (map (cell_of u) qs) in
    let both = ap (λ (l : List Cell). length (distinct_by same_cell l)) (map-append (cell_of u) rs qs) in
    omega (arith, grow, both, length-groups u rs, length-groups u (rs ++ qs))
