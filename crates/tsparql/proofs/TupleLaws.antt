-- A pattern set lists the rows that document 01 says (specs/Tuples.antt), theorem set_rows-tuples: for all patterns and facts. In order:
-- the choices are the tuples whose slots fit in turn; whether they do is told by the terms of each variable alone; and so are the
-- cells that they leave. Assumes nothing.
use mathlib.Core.Path.{◌≡◌, refl, sym, ap, ◌∙◌}
use mathlib.Core.Bool.{Bool, true, false, ◌&&◌, ◌||◌, not, and_comm, and_assoc, or-true}
use mathlib.Core.List.{List, [], ◌∷◌, ◌++◌, map, map-map}
use Prim.Native.Nat.{ℕ, ◌<◌}
use native.Mathlib.Nat.{zero-add}
use native.Mathlib.Omega.{arith}
use borrow.Author.Tests.{eqb-true, eqb-false, leb-true, leb-false}
use lib.Dec.{eqb, leb}
use lib.ListN.{length, set, length-set, get_or-eq_default}
use lib.Seq.{get_or-set_same, get_or-set_other, ext_get_or}
use Rattle.tsparql.specs.Lists.{Every, only_if, keep_if, all_pass}
use Rattle.tsparql.specs.Values.{Cell, free, term, cell_at, variables, no_cells, agree}
use Rattle.tsparql.specs.Query.{Slot, a_term, a_variable, Pattern}
use Rattle.tsparql.specs.Table.{Fact}
use Rattle.tsparql.specs.PatternSets.{slot_fits, bind_slot, bind_subject, bind_two, bind_pattern, matches, Choice, with_fact, choices}
use Rattle.tsparql.specs.PatternSets.{Aggregate, choice_row, set_rows}
use Rattle.tsparql.specs.Tuples.{tuples, FilledSlot, pattern_slots, filled_slots, term_stands, terms_stand, is_variable, terms_for}
use Rattle.tsparql.specs.Tuples.{all_same, fits, first_term, filled_cells, tuple_row, tuple_rows}
use Rattle.tsparql.proofs.ListLaws.{and_left, and_right, and-regroup, every_of, every-weaken, every-up_from}
use Rattle.tsparql.proofs.ListLaws.{all_pass-every, all_pass-passes, all_pass-cong, all_pass-two, all_pass-only}
use Rattle.tsparql.proofs.ListLaws.{keep_if-passes, keep_if-cong, keep_if-and, map-only_if, keep_if-map}
use Rattle.tsparql.proofs.ListLaws.{keep_if-concat_map, map-concat_map, concat_map-same, map-cong, get_d-map-up_from}
use Rattle.tsparql.proofs.ChoiceLaws.{choices_by}

-- ---- the choices, by tuples

-- the terms fit their slots one after the other, given the cells that are set
abbrev fit_in_turn : List FilledSlot → List Cell → Bool
fit_in_turn [] cs = true
fit_in_turn (x ∷ xs) cs = slot_fits x.slot x.value cs && fit_in_turn xs (bind_slot x.slot x.value cs)

-- the cells that they leave
abbrev bind_in_turn : List FilledSlot → List Cell → List Cell
bind_in_turn [] cs = cs
bind_in_turn (x ∷ xs) cs = bind_in_turn xs (bind_slot x.slot x.value cs)

-- the choice that a tuple makes
abbrev tuple_choice : List Pattern → List Cell → List Fact → Choice
tuple_choice ps cs us = record { cells = bind_in_turn (filled_slots ps us) cs; used = us }

-- a pattern that matches is three slots that fit in turn
matches-filled : (p : Pattern) (f : Fact) (xs : List FilledSlot) (cs : List Cell)
    → fit_in_turn (pattern_slots p f ++ xs) cs ≡ matches p f cs && fit_in_turn xs (bind_pattern p f cs)
unfolding matches bind_pattern
matches-filled p f xs cs =
    and-regroup (slot_fits p.subject f.subject cs) (slot_fits p.predicate f.predicate (bind_subject p f cs))
    (slot_fits p.object f.object (bind_two p f cs)) (fit_in_turn xs (bind_pattern p f cs))

-- the choices are those of the tuples whose slots fit in turn
choices-tuples : (fs : List Fact) (ps : List Pattern) (cs : List Cell)
    → choices fs ps cs ≡ map (tuple_choice ps cs) (keep_if (λ us. fit_in_turn (filled_slots ps us) cs) (tuples fs (length ps)))
unfolding choices tuples bind_pattern
choices-tuples fs [] cs = refl
choices-tuples fs (p ∷ ps) cs =
    concat_map-same (choices_by fs p ps cs) (λ f. map made (keep_if fit (map (λ us. f ∷ us) later))) fs
    (λ f. by_fact f (choices-tuples fs ps (bind_pattern p f cs)))
    ∙ sym (map-concat_map made (λ f. keep_if fit (map (λ us. f ∷ us) later)) fs)
    ∙ ap (map made) (sym (keep_if-concat_map fit (λ f. map (λ us. f ∷ us) later) fs))
  where
    later : List (List Fact)
    later = tuples fs (length ps)

    made : List Fact → Choice
    made us = tuple_choice (p ∷ ps) cs us

    fit : List Fact → Bool
    fit us = fit_in_turn (filled_slots (p ∷ ps) us) cs

    by_fact : (f : Fact)
        → choices fs ps (bind_pattern p f cs)
        ≡ map (tuple_choice ps (bind_pattern p f cs)) (keep_if (λ us. fit_in_turn (filled_slots ps us) (bind_pattern p f cs)) later)
        → choices_by fs p ps cs f ≡ map made (keep_if fit (map (λ us. f ∷ us) later))
    by_fact f e =
        rw e
        (ap (only_if m) (map-map (with_fact f) (tuple_choice ps after) (keep_if test later))
        ∙ sym (map-only_if (λ us. made (f ∷ us)) m (keep_if test later))
        ∙ ap (map (λ us. made (f ∷ us))) (sym (keep_if-and m test later)
        ∙ keep_if-cong (λ us. m && test us) (λ us. fit (f ∷ us)) later
        (every_of (λ us. sym (matches-filled p f (filled_slots ps us) cs)) later))
        ∙ sym (map-map made (λ us. f ∷ us) (keep_if (λ us. fit (f ∷ us)) later))
        ∙ ap (map made) (sym (keep_if-map fit (λ us. f ∷ us) later)))
      where
        after : List Cell
        after = bind_pattern p f cs

        m : Bool
        m = matches p f cs

        test : List Fact → Bool
        test us = fit_in_turn (filled_slots ps us) after

-- ---- one variable

-- a cell accepts the terms one after the other
abbrev accepts : Cell → List ℕ → Bool
accepts c [] = true
accepts c (b ∷ bs) = agree c (term b) && accepts (term b) bs

-- the cell that they leave
abbrev last : Cell → List ℕ → Cell
last c [] = c
last c (b ∷ bs) = last (term b) bs

accepts-term : (a : ℕ) (bs : List ℕ) → accepts (term a) bs ≡ all_pass (eqb a) bs
accepts-term a [] = refl
accepts-term a (b ∷ bs) = at (eqb a b) refl (accepts-term b bs)
  where
    at : (t : Bool) → eqb a b ≡ t → accepts (term b) bs ≡ all_pass (eqb b) bs → t && accepts (term b) bs ≡ t && all_pass (eqb a) bs
    at true e h = h ∙ ap (λ (c : ℕ). all_pass (eqb c) bs) (sym (eqb-true a b e))
    at false e h = refl

-- from a free cell on: one term
accepts-free : (bs : List ℕ) → accepts free bs ≡ all_same bs
accepts-free [] = refl
accepts-free (b ∷ bs) = accepts-term b bs

last-term : (a : ℕ) (bs : List ℕ) → all_pass (eqb a) bs ≡ true → last (term a) bs ≡ term a
last-term a [] e = refl
last-term a (b ∷ bs) e =
    let same = eqb-true a b (and_left (eqb a b) (all_pass (eqb a) bs) e) in
    rw (← same) (last-term a bs (and_right (eqb a b) (all_pass (eqb a) bs) e))

last-free : (bs : List ℕ) → all_same bs ≡ true → last free bs ≡ first_term bs
last-free [] e = refl
last-free (b ∷ bs) e = last-term b bs e

-- ---- all variables

-- what a term more for the variable w does to the terms of the variable v
module _ (cs : List Cell) (l : length cs ≡ 16) (w b v : ℕ) (h : v < 16) (bs : List ℕ) where
  abbrev after : Cell
  after = cell_at (set cs w (term b)) v

  here : eqb v w ≡ true → after ≡ term b
  here e =
      let d = eqb-true v w e in
      ap (cell_at (set cs w (term b))) d ∙ get_or-set_same cs w (term b) free (omega (arith, d))

  there : eqb v w ≡ false → after ≡ cell_at cs v
  there e = get_or-set_other cs w v (term b) free (eqb-false v w e)

  accepts-set : accepts (cell_at cs v) (only_if (eqb v w) (b ∷ []) ++ bs)
      ≡ (not (eqb v w) || agree (cell_at cs w) (term b)) && accepts after bs
  accepts-set = at (eqb v w) refl
    where
      at : (t : Bool) → eqb v w ≡ t
          → accepts (cell_at cs v) (only_if t (b ∷ []) ++ bs) ≡ (not t || agree (cell_at cs w) (term b)) && accepts after bs
      at true e = rw (here e, eqb-true v w e)
      at false e = rw (there e)

  last_set : last (cell_at cs v) (only_if (eqb v w) (b ∷ []) ++ bs) ≡ last after bs
  last_set = at (eqb v w) refl
    where
      at : (t : Bool) → eqb v w ≡ t → last (cell_at cs v) (only_if t (b ∷ []) ++ bs) ≡ last after bs
      at true e = rw (here e)
      at false e = rw (there e)

-- the variables are below 16
pub below16 : Every (λ v. v < 16) variables
below16 = every-up_from (λ v. v < 16) 0 16 (λ v h. h)

-- what is asked of the variable w alone; of a variable that no row has, nothing is
only-agree : (cs : List Cell) (w b : ℕ) → length cs ≡ 16
    → all_pass (λ v. not (eqb v w) || agree (cell_at cs w) (term b)) variables ≡ agree (cell_at cs w) (term b)
only-agree cs w b l = at (leb w 15) refl
  where
    at : (t : Bool) → leb w 15 ≡ t
        → all_pass (λ v. not (eqb v w) || agree (cell_at cs w) (term b)) variables ≡ agree (cell_at cs w) (term b)
    at true e = all_pass-only 0 16 w (agree (cell_at cs w) (term b)) (omega arith) (omega (arith, leb-true w 15 e))
    at false e =
        let outside : cell_at cs w ≡ free = get_or-eq_default cs free (omega (arith, leb-false w 15 e)) in
        rw outside (all_pass-every (λ v. not (eqb v w) || true) variables (every_of (λ v. or-true (not (eqb v w))) variables))

-- every variable's cell accepts its terms
abbrev all_accept : List FilledSlot → List Cell → Bool
all_accept xs cs = all_pass (λ v. accepts (cell_at cs v) (terms_for v xs)) variables

-- slots fit in turn where every term stands, and each variable's cell accepts its terms
fit_in_turn-accepts : (xs : List FilledSlot) (cs : List Cell) → length cs ≡ 16 → fit_in_turn xs cs ≡ terms_stand xs && all_accept xs cs
fit_in_turn-accepts [] cs l = refl
fit_in_turn-accepts (x ∷ xs) cs l = at x.slot x.value (fit_in_turn-accepts xs)
  where
    at : (s : Slot) (b : ℕ) → ((ds : List Cell) → length ds ≡ 16 → fit_in_turn xs ds ≡ terms_stand xs && all_accept xs ds)
        → slot_fits s b cs && fit_in_turn xs (bind_slot s b cs)
        ≡ (term_stands s b && terms_stand xs)
        && all_pass (λ v. accepts (cell_at cs v) (only_if (is_variable v s) (b ∷ []) ++ terms_for v xs)) variables
    at (a_term a) b later = rw (later cs l) (sym (and_assoc (eqb a b) (terms_stand xs) (all_accept xs cs)))
    at (a_variable w) b later =
        rw (later after-cells (length-set cs w (term b) ∙ l))
        (sym (and_assoc q (terms_stand xs) (all_accept xs after-cells))
        ∙ ap (λ (t : Bool). t && all_accept xs after-cells) (and_comm q (terms_stand xs))
        ∙ and_assoc (terms_stand xs) q (all_accept xs after-cells)
        ∙ ap (λ (t : Bool). terms_stand xs && t) (sym asked))
      where
        after-cells : List Cell
        after-cells = set cs w (term b)

        q : Bool
        q = agree (cell_at cs w) (term b)

        -- what is asked of the variables is what is asked of w, and then of all
        asked : all_pass (λ v. accepts (cell_at cs v) (only_if (eqb v w) (b ∷ []) ++ terms_for v xs)) variables ≡ q && all_accept xs after-cells
        asked =
            all_pass-two (λ v. accepts (cell_at cs v) (only_if (eqb v w) (b ∷ []) ++ terms_for v xs)) (λ v. not (eqb v w) || q)
            (λ v. accepts (cell_at after-cells v) (terms_for v xs)) q variables
            (every-weaken (λ v h. accepts-set cs l w b v h (terms_for v xs)) variables below16) (only-agree cs w b l)

-- the cells by variable
pub map-cell_at : (cs : List Cell) → length cs ≡ 16 → cs ≡ map (cell_at cs) variables
map-cell_at cs l =
    ext_get_or free cs (map (cell_at cs) variables) l
    (λ v h. sym (get_d-map-up_from (cell_at cs) 0 16 v free (omega arith) ∙ rw (zero-add v)))

-- and leave, for each variable, the last of its terms
bind_in_turn-last : (xs : List FilledSlot) (cs : List Cell) → length cs ≡ 16
    → bind_in_turn xs cs ≡ map (λ v. last (cell_at cs v) (terms_for v xs)) variables
bind_in_turn-last [] cs l = map-cell_at cs l
bind_in_turn-last (x ∷ xs) cs l = at x.slot x.value (bind_in_turn-last xs)
  where
    at : (s : Slot) (b : ℕ)
        → ((ds : List Cell) → length ds ≡ 16 → bind_in_turn xs ds ≡ map (λ v. last (cell_at ds v) (terms_for v xs)) variables)
        → bind_in_turn xs (bind_slot s b cs)
        ≡ map (λ v. last (cell_at cs v) (only_if (is_variable v s) (b ∷ []) ++ terms_for v xs)) variables
    at (a_term a) b later = later cs l
    at (a_variable w) b later =
        later (set cs w (term b)) (length-set cs w (term b) ∙ l)
        ∙ map-cong (λ v. last (cell_at (set cs w (term b)) v) (terms_for v xs))
        (λ v. last (cell_at cs v) (only_if (eqb v w) (b ∷ []) ++ terms_for v xs)) variables
        (every-weaken (λ v h. sym (last_set cs l w b v h (terms_for v xs))) variables below16)

-- ---- rows

-- slots fit in turn, from no cells on, where every variable gets one term
fit_in_turn-fits : (xs : List FilledSlot) → fit_in_turn xs no_cells ≡ fits xs
fit_in_turn-fits xs =
    fit_in_turn-accepts xs no_cells refl
    ∙ ap (λ (t : Bool). terms_stand xs && t)
    (all_pass-cong (λ v. accepts free (terms_for v xs)) (λ v. all_same (terms_for v xs)) variables
    (every_of (λ v. accepts-free (terms_for v xs)) variables))

-- and then leave that term
bind_in_turn-filled : (xs : List FilledSlot) → fits xs ≡ true → bind_in_turn xs no_cells ≡ filled_cells xs
bind_in_turn-filled xs e =
    bind_in_turn-last xs no_cells refl
    ∙ map-cong (λ v. last free (terms_for v xs)) (λ v. first_term (terms_for v xs)) variables
    (every-weaken (λ v h. last-free (terms_for v xs) h) variables one)
  where
    one : Every (λ v. all_same (terms_for v xs) ≡ true) variables
    one = all_pass-passes (λ v. all_same (terms_for v xs)) variables (and_right (terms_stand xs) _ e)

-- a pattern set lists the rows of the tuples of records under which every variable gets one term, in their order
pub set_rows-tuples : (g : Aggregate) (fs : List Fact) (ps : List Pattern) → set_rows g fs ps ≡ tuple_rows g fs ps
unfolding set_rows tuple_rows
set_rows-tuples g fs ps =
    ap (map (choice_row g)) (choices-tuples fs ps no_cells)
    ∙ map-map (choice_row g) (tuple_choice ps no_cells) (keep_if (λ us. fit_in_turn (filled_slots ps us) no_cells) all)
    ∙ ap (map (λ us. choice_row g (tuple_choice ps no_cells us)))
    (keep_if-cong _ (λ us. fits (filled_slots ps us)) all (every_of (λ us. fit_in_turn-fits (filled_slots ps us)) all))
    ∙ map-cong _ (tuple_row g ps) kept (every-weaken at kept (keep_if-passes (λ us. fits (filled_slots ps us)) all))
  where
    all : List (List Fact)
    all = tuples fs (length ps)

    kept : List (List Fact)
    kept = keep_if (λ us. fits (filled_slots ps us)) all

    at : (us : List Fact) → fits (filled_slots ps us) ≡ true → choice_row g (tuple_choice ps no_cells us) ≡ tuple_row g ps us
    at us e = λ i. record { cells = bind_in_turn-filled (filled_slots ps us) e i; trust = g us }
