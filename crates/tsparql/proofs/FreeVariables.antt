-- A variable that stands in no pattern and no project trust of a node is free in its rows (`rows_over-free`); so the premise of
-- Definition 3.1 of source document 000 holds at each project trust node of a checked query, and so does what it says of repetitions
-- (`checked-projects-kept`).
-- Assumes nothing.
use mathlib.Core.Path.{◌≡◌, refl, sym, ap, ◌∙◌}
use mathlib.Core.Bool.{Bool, true, false, ◌||◌}
use mathlib.Core.List.{List, [], ◌∷◌, ◌++◌, map}
use Prim.Native.Nat.{ℕ, zero, suc, ◌+◌, ◌≤◌}
use native.Mathlib.Nat.{zero-add}
use native.Mathlib.Omega.{arith}
use lib.Dec.{eqb, ltb}
use lib.ListN.{length, get_or, get_or-map, length-append, replicate}
use lib.Seq.{get_or-set_other}
use borrow.Author.Tests.{eqb-false, eq-eqb, ltb-false}
use Rattle.tsparql.specs.Cardinality.{FreeAt, FreeProjections, ProjectsKept}
use Rattle.tsparql.specs.Lists.{Every, cons_if, keep_if, concat_map, up_from}
use Rattle.tsparql.specs.Values.{Cell, free, term, trusted, Row, cell_at}
use Rattle.tsparql.specs.Values.{variables, merge_cell, compatible, merge_cells, merge, with_trust, trust_inside}
use Rattle.tsparql.specs.Query.{Pattern, Condition}
use Rattle.tsparql.specs.Query.{Node, pattern_set, join, left_join, union, filter, project_trust, ensure_trust}
use Rattle.tsparql.specs.Conditions.{true_on}
use Rattle.tsparql.specs.Rows.{merges, stands, left_row, rows_of}
use Rattle.tsparql.specs.Writing.{condition_bytes, node_bytes}
use Rattle.tsparql.specs.Table.{Fact}
use Rattle.tsparql.specs.PatternSets.{Aggregate, set_rows, rows_over}
use Rattle.tsparql.specs.Check.{Passes, TrustProjection, projected_variable, trust_projections, variables_of, pattern_variables}
use Rattle.tsparql.specs.Check.{occurrences, clashing, clashes, first_clash, variables_refusal}
use Rattle.tsparql.proofs.ListLaws.{every-weaken, every_append, every-cons_if}
use Rattle.tsparql.proofs.ListLaws.{every-keep_if, every_map, every-concat_map}
use Rattle.tsparql.proofs.ListLaws.{keep_if-append, map-append}
use Rattle.tsparql.proofs.ListLaws.{every-parts}
use Rattle.tsparql.specs.Reading.{query_node}
use Rattle.tsparql.specs.Check.{evaluate_limit, check}
use Rattle.tsparql.proofs.Cardinalities.{cardinality-project-free}
use Rattle.tsparql.proofs.QueryLaws.{check-parts, query-checked}
use Rattle.tsparql.proofs.ChoiceLaws.{set_rows-keep}

-- ---- pattern sets

-- v is none of the numbers
abbrev pub Absent : ℕ → List ℕ → Type 0
Absent v vs = Every (λ w. v ≡ w → ⊥) vs

-- a number that stands nowhere in a list is absent
occurrences-none : (v : ℕ) (vs : List ℕ) → occurrences v vs ≡ 0 → Absent v vs
occurrences-none v [] e = tt
occurrences-none v (w ∷ vs) e = at (eqb v w) refl e (occurrences-none v vs)
  where
    at : (b : Bool) → eqb v w ≡ b → length (cons_if b w (keep_if (eqb v) vs)) ≡ 0 → (occurrences v vs ≡ 0 → Absent v vs)
        → Absent v (w ∷ vs)
    at true d h k = absurd (omega arith)
    at false d h k = (eqb-false v w d, k h)

-- where no variable is set, each is free
no_cells-free : (n v : ℕ) → cell_at (replicate n free) v ≡ free
no_cells-free zero v = refl
no_cells-free (suc n) zero = refl
no_cells-free (suc n) (suc v) = no_cells-free n v

-- a variable that is absent from the patterns is free in every row of the set
set_rows-absent : (g : Aggregate) (fs : List Fact) (ps : List Pattern) (v : ℕ) → Absent v (concat_map variables_of ps)
    → Every (FreeAt v) (set_rows g fs ps)
set_rows-absent g fs ps v e =
    set_rows-keep (λ cs. cell_at cs v ≡ free) g fs ps
    (every-weaken (λ w d b cs a h. get_or-set_other cs w v (term b) free d ∙ h) (concat_map variables_of ps) e) (no_cells-free 16 v)

-- ---- a variable that stands nowhere in a node is free in its rows

-- the numbers from i on, also behind the last
get_d-up_from : (i n v : ℕ) → get_or (up_from i n) v (i + v) ≡ i + v
get_d-up_from i zero v = refl
get_d-up_from i (suc n) zero = omega arith
get_d-up_from i (suc n) (suc v) = let e : i + suc v ≡ suc i + v = omega arith in rw e (get_d-up_from (suc i) n v)

module _ (v : ℕ) where
  merge_free : (x y : Row) → FreeAt v x → FreeAt v y → FreeAt v (merge x y)
  unfolding merge_cells
  merge_free x y d e =
      ap (get_or (map merged variables) v) (sym here)
      ∙ get_or-map merged variables v v
      ∙ ap merged (rw (zero-add v) at (get_d-up_from 0 16 v))
      ∙ here
    where
      merged : ℕ → Cell
      merged w = merge_cell (cell_at x.cells w) (cell_at y.cells w)

      here : merged v ≡ free
      here = rw (d, e)

  merges-free : (x : Row) (ys : List Row) → FreeAt v x → Every (FreeAt v) ys → Every (FreeAt v) (merges x ys)
  merges-free x ys d e =
      every_map (FreeAt v) (merge x) (keep_if (compatible x) ys)
      (every-weaken (λ y. merge_free x y d) (keep_if (compatible x) ys) (every-keep_if (FreeAt v) (compatible x) ys e))

  left_row-free : (c : Condition) (x : Row) (ms : List Row) → FreeAt v x → Every (FreeAt v) ms → Every (FreeAt v) (left_row c x ms)
  left_row-free c x ms d e =
      every_append (FreeAt v) (keep_if (true_on c) ms) (cons_if (stands c ms) x []) (every-keep_if (FreeAt v) (true_on c) ms e)
      (every-cons_if (FreeAt v) (stands c ms) x [] d tt)

  -- v stands in no pattern and in no projection
  abbrev pub Nowhere : List ℕ → List TrustProjection → Type 0
  Nowhere vs ps = Absent v vs × Absent v (map projected_variable ps)

  nowhere-parts : (vs ws : List ℕ) (ps qs : List TrustProjection) → Nowhere (vs ++ ws) (ps ++ qs) → Nowhere vs ps × Nowhere ws qs
  nowhere-parts vs ws ps qs h =
      let in_patterns = every-parts (λ w. v ≡ w → ⊥) vs ws h.0 in
      let projected : Absent v (map projected_variable ps ++ map projected_variable qs) =
      rw (map-append projected_variable ps qs) at h.1 in
      let in_projections = every-parts (λ w. v ≡ w → ⊥) (map projected_variable ps) (map projected_variable qs) projected in
      ((in_patterns.0, in_projections.0), (in_patterns.1, in_projections.1))

  module _ (g : Aggregate) (fs : List Fact) where
    -- v is free in the rows of a node, where it stands nowhere in it
    abbrev Frees : Node → Type 0
    Frees q = (at : ℕ) → Nowhere (pattern_variables q) (trust_projections at q) → Every (FreeAt v) (rows_over g fs q)

    -- so v is free in the rows of both operands
    operands-free : (x y : Node) (i j : ℕ) → Frees x → Frees y
        → Nowhere (pattern_variables x ++ pattern_variables y) (trust_projections i x ++ trust_projections j y)
        → Every (FreeAt v) (rows_over g fs x) × Every (FreeAt v) (rows_over g fs y)
    operands-free x y i j on_left on_right h =
        let parts = nowhere-parts (pattern_variables x) (pattern_variables y) (trust_projections i x) (trust_projections j y) h in
        (on_left i parts.0, on_right j parts.1)

    rows_over-nowhere : (q : Node) → Frees q
    unfolding pattern_variables trust_projections rows_of
    rows_over-nowhere (pattern_set ps) at h = set_rows-absent g fs ps v h.0
    rows_over-nowhere (join x y) at h =
        let both = operands-free x y (at + 1) (at + 1 + length (node_bytes x)) (rows_over-nowhere x) (rows_over-nowhere y) h in
        every-concat_map (FreeAt v) (λ r. merges r (rows_over g fs y)) (rows_over g fs x)
        (every-weaken (λ r f. merges-free r (rows_over g fs y) f both.1) (rows_over g fs x) both.0)
    rows_over-nowhere (left_join c x y) at h =
        let start : ℕ = at + 1 + length (condition_bytes c) in
        let both = operands-free x y start (start + length (node_bytes x)) (rows_over-nowhere x) (rows_over-nowhere y) h in
        every-concat_map (FreeAt v) (λ r. left_row c r (merges r (rows_over g fs y))) (rows_over g fs x)
        (every-weaken (λ r f. left_row-free c r (merges r (rows_over g fs y)) f (merges-free r (rows_over g fs y) f both.1))
        (rows_over g fs x) both.0)
    rows_over-nowhere (union x y) at h =
        let both = operands-free x y (at + 1) (at + 1 + length (node_bytes x)) (rows_over-nowhere x) (rows_over-nowhere y) h in
        every_append (FreeAt v) (rows_over g fs x) (rows_over g fs y) both.0 both.1
    rows_over-nowhere (filter c x) at h =
        every-keep_if (FreeAt v) (true_on c) (rows_over g fs x) (rows_over-nowhere x (at + 1 + length (condition_bytes c)) h)
    rows_over-nowhere (project_trust w x) at h =
        every_map (FreeAt v) (with_trust w) (rows_over g fs x)
        (every-weaken (λ r f. get_or-set_other r.cells w v (trusted r.trust) free h.1.0 ∙ f) (rows_over g fs x)
        (rows_over-nowhere x (at + 1) (h.0, h.1.1)))
    rows_over-nowhere (ensure_trust l u x) at h =
        every-keep_if (FreeAt v) (trust_inside l u) (rows_over g fs x) (rows_over-nowhere x (at + 4) h)

-- a variable that stands in no pattern and no project trust of a node is free in every row of the node
pub rows_over-free : (g : Aggregate) (fs : List Fact) (v : ℕ) (q : Node) (at : ℕ) → occurrences v (pattern_variables q) ≡ 0
    → occurrences v (map projected_variable (trust_projections at q)) ≡ 0 → Every (FreeAt v) (rows_over g fs q)
rows_over-free g fs v q at d e =
    rows_over-nowhere v g fs q at
    (occurrences-none v (pattern_variables q) d, occurrences-none v (map projected_variable (trust_projections at q)) e)

-- ---- the projections of an accepted query

-- v stands in no pattern, and in one projection at most
abbrev Once : List ℕ → List TrustProjection → ℕ → Type 0
Once vs ps v = (occurrences v vs ≡ 0) × (occurrences v (map projected_variable ps) ≤ 1)

-- so do the variables of all the projections
abbrev AllOnce : List ℕ → List TrustProjection → Type 0
AllOnce vs ps = Every (λ p. Once vs ps p.variable) ps

pub occurrences-append : (v : ℕ) (vs ws : List ℕ) → occurrences v (vs ++ ws) ≡ occurrences v vs + occurrences v ws
occurrences-append v vs ws = ap length (keep_if-append (eqb v) vs ws) ∙ length-append (keep_if (eqb v) vs) (keep_if (eqb v) ws)

once-parts : (v : ℕ) (vs ws : List ℕ) (ps qs : List TrustProjection) → Once (vs ++ ws) (ps ++ qs) v → Once vs ps v × Once ws qs v
once-parts v vs ws ps qs h =
    omega (
      arith,
      occurrences-append v vs ws,
      occurrences-append v (map projected_variable ps) (map projected_variable qs),
      ap (occurrences v) (map-append projected_variable ps qs),
    )

all_once-parts : (vs ws : List ℕ) (ps qs : List TrustProjection) → AllOnce (vs ++ ws) (ps ++ qs) → AllOnce vs ps × AllOnce ws qs
all_once-parts vs ws ps qs h =
    let parts = every-parts (λ p. Once (vs ++ ws) (ps ++ qs) p.variable) ps qs h in (
      every-weaken (λ p o. (once-parts p.variable vs ws ps qs o).0) ps parts.0,
      every-weaken (λ p o. (once-parts p.variable vs ws ps qs o).1) qs parts.1,
    )

-- a variable that stands at the first projection and once at most stands in no later one
once-later : (v at : ℕ) (vs : List ℕ) (ps : List TrustProjection) → Once vs (record { place = at; variable = v } ∷ ps) v
    → occurrences v (map projected_variable ps) ≡ 0
once-later v at vs ps h = omega (arith, rw (eq-eqb v v refl) at h.1)

or-false-parts : (p q : Bool) → p || q ≡ false → (p ≡ false) × (q ≡ false)
or-false-parts true q e = (e, cc)
or-false-parts false q e = (refl, e)

-- no refusal, no clash
first_clash-none : (c : TrustProjection → Bool) (ps : List TrustProjection) → Passes (first_clash (keep_if c ps))
    → Every (λ p. c p ≡ false) ps
first_clash-none c [] e = tt
first_clash-none c (p ∷ ps) e = at (c p) refl e (first_clash-none c ps)
  where
    at : (b : Bool) → c p ≡ b → (first_clash (cons_if b p (keep_if c ps))).number ≡ 0
        → ((first_clash (keep_if c ps)).number ≡ 0 → Every (λ r. c r ≡ false) ps) → Every (λ r. c r ≡ false) (p ∷ ps)
    at true d h k = absurd (omega arith)
    at false d h k = (d, k h)

-- a variable that does not clash
clashing-once : (vs : List ℕ) (ps : List TrustProjection) (v : ℕ) → clashing vs (map projected_variable ps) v ≡ false → Once vs ps v
clashing-once vs ps v e =
    let in_patterns : ℕ = occurrences v vs in
    let in_projections : ℕ = occurrences v (map projected_variable ps) in
    let none : (ltb 0 in_patterns ≡ false) × (ltb 1 in_projections ≡ false) = or-false-parts (ltb 0 in_patterns) (ltb 1 in_projections) e in
    omega (arith, ltb-false 0 in_patterns none.0, ltb-false 1 in_projections none.1)

module _ (g : Aggregate) (fs : List Fact) where
  -- the projections of a node are free, where their variables stand in no pattern and in one projection
  abbrev FreesOnce : Node → Type 0
  FreesOnce q = (at : ℕ) → AllOnce (pattern_variables q) (trust_projections at q) → FreeProjections (set_rows g fs) q

  -- so the projections of both operands are free
  operands-projections : (x y : Node) (i j : ℕ) → FreesOnce x → FreesOnce y
      → AllOnce (pattern_variables x ++ pattern_variables y) (trust_projections i x ++ trust_projections j y)
      → FreeProjections (set_rows g fs) x × FreeProjections (set_rows g fs) y
  operands-projections x y i j on_left on_right h =
      let parts = all_once-parts (pattern_variables x) (pattern_variables y) (trust_projections i x) (trust_projections j y) h in
      (on_left i parts.0, on_right j parts.1)

  trust_projections-free : (q : Node) → FreesOnce q
  unfolding pattern_variables trust_projections
  trust_projections-free (pattern_set ps) at h = tt
  trust_projections-free (join x y) at h =
      operands-projections x y (at + 1) (at + 1 + length (node_bytes x)) (trust_projections-free x) (trust_projections-free y) h
  trust_projections-free (left_join c x y) at h =
      let start : ℕ = at + 1 + length (condition_bytes c) in
      operands-projections x y start (start + length (node_bytes x)) (trust_projections-free x) (trust_projections-free y) h
  trust_projections-free (union x y) at h =
      operands-projections x y (at + 1) (at + 1 + length (node_bytes x)) (trust_projections-free x) (trust_projections-free y) h
  trust_projections-free (filter c x) at h = trust_projections-free x (at + 1 + length (condition_bytes c)) h
  trust_projections-free (project_trust v x) at h =
      let later : List TrustProjection = trust_projections (at + 1) x in
      let parts = all_once-parts [] (pattern_variables x) (record { place = at; variable = v } ∷ []) later h in (
        rows_over-free g fs v x (at + 1) h.0.0 (once-later v at (pattern_variables x) later h.0),
        trust_projections-free x (at + 1) parts.1,
      )
  trust_projections-free (ensure_trust l u x) at h = trust_projections-free x (at + 4) h

  -- where refusal 7 does not apply to a query, the premise of Definition 3.1 holds at each of its project trust nodes
  variables_refusal-free : (q : Node) → Passes (variables_refusal q) → FreeProjections (set_rows g fs) q
  unfolding variables_refusal
  variables_refusal-free q e =
      trust_projections-free q 0
      (every-weaken (λ p. clashing-once (pattern_variables q) (trust_projections 0 q) p.variable) (trust_projections 0 q)
      (first_clash-none (clashes q) (trust_projections 0 q) e))

  -- so it does in a query that passes the check
  pub checked-projections-free : (t s : List ℕ) → Passes (check t s) → FreeProjections (set_rows g fs) (query_node s)
  checked-projections-free t s z =
      variables_refusal-free (query_node s) (query-checked evaluate_limit s (check-parts t s z).1).clear

-- Definition 3.1 as published holds where its premise does
free-projects-kept : (base : List Pattern → List Row) (q : Node) → FreeProjections base q → ProjectsKept base q
unfolding rows_of
free-projects-kept base (pattern_set ps) h = tt
free-projects-kept base (join x y) h = (free-projects-kept base x h.0, free-projects-kept base y h.1)
free-projects-kept base (left_join c x y) h = (free-projects-kept base x h.0, free-projects-kept base y h.1)
free-projects-kept base (union x y) h = (free-projects-kept base x h.0, free-projects-kept base y h.1)
free-projects-kept base (filter c x) h = free-projects-kept base x h
free-projects-kept base (project_trust v x) h =
    (λ r Free-in. cardinality-project-free v (rows_of base x) r h.0 Free-in, free-projects-kept base x h.1)
free-projects-kept base (ensure_trust l u x) h = free-projects-kept base x h

-- at every project trust node of a query that passes the check, repetitions are as published
pub checked-projects-kept : (g : Aggregate) (fs : List Fact) (t s : List ℕ) → Passes (check t s)
    → ProjectsKept (set_rows g fs) (query_node s)
checked-projects-kept g fs t s z = free-projects-kept (set_rows g fs) (query_node s) (checked-projections-free g fs t s z)
