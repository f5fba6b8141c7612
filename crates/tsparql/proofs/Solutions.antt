-- A pattern set over facts whose triples rise lists every solution once and nothing else (`cardinality-set`), as Definition 2.3 of source
-- document 000 has it: a row is listed as often as a tuple of records (Tuples) gives it. Groups: one variable; a tuple that gives the
-- cells; the only such tuple; pattern sets. What it means for the nodes of a query is in Published. Assumes nothing.
use mathlib.Core.Path.{◌≡◌, refl, sym, ap, subst, ◌∙◌}
use mathlib.Core.Bool.{Bool, true, false, ◌&&◌, ◌||◌, not, and_comm, and_assoc, and_self, or_assoc}
use mathlib.Core.List.{List, [], ◌∷◌, ◌++◌, map}
use Prim.Native.Nat.{ℕ, zero, suc, ◌≤◌, ◌<◌, zero-le}
use native.Mathlib.Nat.{zero-add}
use native.Mathlib.Omega.{arith}
use lib.Dec.{eqb}
use lib.ListN.{length}
use borrow.Author.Tests.{eqb-true}
use Rattle.tsparql.specs.Lists.{Every, cons_if, only_if, keep_if, all_pass, any_pass, concat_map}
use Rattle.tsparql.specs.Values.{Trust, Cell, free, term, trusted, Row, cell_at, variables}
use Rattle.tsparql.specs.Values.{is_free, same_trust, same_cell}
use Rattle.tsparql.specs.Query.{Slot, a_term, a_variable, Pattern}
use Rattle.tsparql.specs.Table.{Fact}
use Rattle.tsparql.specs.PatternSets.{Aggregate, set_rows}
use Rattle.tsparql.specs.Tuples.{tuples, FilledSlot, filled_slots, term_stands, terms_stand, is_variable, terms_for}
use Rattle.tsparql.specs.Tuples.{all_same, fits, first_term, filled_cells, tuple_row, tuple_rows}
use Rattle.tsparql.specs.Check.{slot_variables, variables_of}
use Rattle.tsparql.specs.Cardinality.{same_cells, same_row, cardinality, count_if}
use Rattle.tsparql.specs.Cardinality.{slot_cell, becomes, becomes_record, is_solution, subgraph}
use Rattle.tsparql.specs.Cardinality.{set_cardinality, SameRecords, SetAggregate}
use Rattle.tsparql.proofs.ListLaws.{and_left, and_right, and-three, and-regroup, and-interchange, test-eq, every_of, every-weaken}
use Rattle.tsparql.proofs.ListLaws.{every-parts, every_map, every-concat_map}
use Rattle.tsparql.proofs.ListLaws.{all_pass-every, all_pass-passes, all_pass-cong}
use Rattle.tsparql.proofs.ListLaws.{all_pass-append, all_pass-and, all_pass-two, all_pass-only, all_pass-keep_if}
use Rattle.tsparql.proofs.ListLaws.{any_pass-append}
use Rattle.tsparql.proofs.ListLaws.{keep_if-keep_if, keep_if-cong, keep_if-and, keep_if-none, keep_if-map}
use Rattle.tsparql.proofs.ListLaws.{keep_if-concat_map, concat_map-same, map-cong, map-only_if, get_d-map-up_from}
use Rattle.tsparql.proofs.TableLaws.{Rising, key}
use Rattle.tsparql.proofs.ChoiceLaws.{every-slot}
use Rattle.tsparql.proofs.TupleLaws.{below16, map-cell_at, set_rows-tuples}
use Rattle.tsparql.proofs.Cardinalities.{same_cell-true, same_cell-refl, same_cells-true, same_cells-refl, cardinality-map}
use Rattle.tsparql.proofs.GraphLaws.{rising-graph, graph-keep_if}

-- ---- one variable

-- the cell is each of the terms
abbrev has_terms : Cell → List ℕ → Bool
has_terms c bs = all_pass (λ b. same_cell c (term b)) bs

-- the list has an element
abbrev some : {A : Type 0} → List A → Bool
some [] = false
some (x ∷ xs) = true

-- one term for the variable, which its cell is: the cell is all the terms, and free where there is none
all_same-cell : (c : Cell) (bs : List ℕ) → all_same bs && same_cell c (first_term bs) ≡ has_terms c bs && (is_free c || some bs)
all_same-cell free [] = refl
all_same-cell (term a) [] = refl
all_same-cell (trusted t) [] = refl
all_same-cell c (b ∷ bs) = at (same_cell c (term b)) refl
  where
    at : (t : Bool) → same_cell c (term b) ≡ t → all_pass (eqb b) bs && t ≡ (t && has_terms c bs) && (is_free c || true)
    at true e = rw (same_cell-true c (term b) e, and_comm (all_pass (eqb b) bs) true)
    at false e = and_comm (all_pass (eqb b) bs) false

-- ---- a tuple that gives the cells

-- the slot's cell is the record's term
abbrev says : List Cell → FilledSlot → Bool
says cs x = same_cell (slot_cell cs x.slot) (term x.value)

-- the slots whose variables are below 16
abbrev SlotsInRange : List FilledSlot → Type 0
SlotsInRange xs = Every (λ x. Every (λ v. v < 16) (slot_variables x.slot)) xs

-- every cell is each of the terms that its variable gets
abbrev have_terms : List Cell → List FilledSlot → Bool
have_terms cs xs = all_pass (λ v. has_terms (cell_at cs v) (terms_for v xs)) variables

-- a term more for the variable w, and what it asks of the variable v
has_terms-more : (cs : List Cell) (w b v : ℕ) (bs : List ℕ)
    → has_terms (cell_at cs v) (only_if (eqb v w) (b ∷ []) ++ bs)
    ≡ (not (eqb v w) || same_cell (cell_at cs w) (term b)) && has_terms (cell_at cs v) bs
has_terms-more cs w b v bs = at (eqb v w) refl
  where
    at : (t : Bool) → eqb v w ≡ t
        → has_terms (cell_at cs v) (only_if t (b ∷ []) ++ bs) ≡ (not t || same_cell (cell_at cs w) (term b)) && has_terms (cell_at cs v) bs
    at true e =
        subst
        (λ (u : ℕ). has_terms (cell_at cs u) (b ∷ bs) ≡ (not true || same_cell (cell_at cs w) (term b)) && has_terms (cell_at cs u) bs)
        (sym (eqb-true v w e)) refl
    at false e = refl

-- by slots or by variables, it is the same that is asked
says-terms : (cs : List Cell) (xs : List FilledSlot) → SlotsInRange xs → have_terms cs xs && terms_stand xs ≡ all_pass (says cs) xs
says-terms cs [] h = refl
says-terms cs (x ∷ xs) h = at x.slot x.value h.0 (says-terms cs xs h.1)
  where
    at : (s : Slot) (b : ℕ) → Every (λ v. v < 16) (slot_variables s) → have_terms cs xs && terms_stand xs ≡ all_pass (says cs) xs
        → all_pass (λ v. has_terms (cell_at cs v) (only_if (is_variable v s) (b ∷ []) ++ terms_for v xs)) variables
        && (term_stands s b && terms_stand xs)
        ≡ same_cell (slot_cell cs s) (term b) && all_pass (says cs) xs
    at (a_term a) b k later = rw (← later) (and-interchange true (have_terms cs xs) (eqb a b) (terms_stand xs))
    at (a_variable w) b k later =
        rw (← later)
        (ap (λ (t : Bool). t && terms_stand xs)
        (all_pass-two (λ v. has_terms (cell_at cs v) (only_if (eqb v w) (b ∷ []) ++ terms_for v xs)) (λ v. not (eqb v w) || q)
        (λ v. has_terms (cell_at cs v) (terms_for v xs)) q variables
        (every_of (λ v. has_terms-more cs w b v (terms_for v xs)) variables) (all_pass-only 0 16 w q (omega arith) k.0))
        ∙ and_assoc q (have_terms cs xs) (terms_stand xs))
      where
        q : Bool
        q = same_cell (cell_at cs w) (term b)

-- to have these cells is to have each of them, and 16
same_cells-variables : (cs : List Cell) (f : ℕ → Cell)
    → same_cells cs (map f variables) ≡ eqb (length cs) 16 && all_pass (λ v. same_cell (cell_at cs v) (f v)) variables
same_cells-variables cs f = test-eq _ _ forth back
  where
    made : (v : ℕ) → v < 16 → cell_at (map f variables) v ≡ f v
    made v h = get_d-map-up_from f 0 16 v free h ∙ rw (zero-add v)

    forth : same_cells cs (map f variables) ≡ true
        → eqb (length cs) 16 && all_pass (λ v. same_cell (cell_at cs v) (f v)) variables ≡ true
    forth e =
        rw (same_cells-true cs (map f variables) e)
        (all_pass-every (λ v. same_cell (cell_at (map f variables) v) (f v)) variables
        (every-weaken (λ v h. ap (λ (c : Cell). same_cell c (f v)) (made v h) ∙ same_cell-refl (f v)) variables below16))

    back : eqb (length cs) 16 && all_pass (λ v. same_cell (cell_at cs v) (f v)) variables ≡ true
        → same_cells cs (map f variables) ≡ true
    back e =
        let long = eqb-true (length cs) 16 (and_left (eqb (length cs) 16) _ e) in
        let each = all_pass-passes (λ v. same_cell (cell_at cs v) (f v)) variables (and_right (eqb (length cs) 16) _ e) in
        let same : cs ≡ map f variables =
        map-cell_at cs long ∙ map-cong (cell_at cs) f variables (every-weaken (λ v k. same_cell-true (cell_at cs v) (f v) k) variables each) in
        rw (← same) (same_cells-refl cs)

-- only variables with a term are set
abbrev only_set : List Cell → List FilledSlot → Bool
only_set cs xs = all_pass (λ v. is_free (cell_at cs v) || some (terms_for v xs)) variables

-- a tuple fits and gives the cells just where the cells say its terms, and are free where it has none
fits-says : (cs : List Cell) (xs : List FilledSlot) → SlotsInRange xs
    → fits xs && same_cells cs (filled_cells xs) ≡ (eqb (length cs) 16 && only_set cs xs) && all_pass (says cs) xs
fits-says cs xs h =
    ap (λ (t : Bool). fits xs && t) (same_cells-variables cs (λ v. first_term (terms_for v xs)))
    ∙ and-interchange (terms_stand xs) one long gave
    ∙ ap (λ (t : Bool). (terms_stand xs && long) && t)
    (sym (all_pass-and (λ v. all_same (terms_for v xs)) (λ v. same_cell (cell_at cs v) (first_term (terms_for v xs))) variables)
    ∙ all_pass-cong (λ v. all_same (terms_for v xs) && same_cell (cell_at cs v) (first_term (terms_for v xs)))
    (λ v. has_terms (cell_at cs v) (terms_for v xs) && (is_free (cell_at cs v) || some (terms_for v xs))) variables
    (every_of (λ v. all_same-cell (cell_at cs v) (terms_for v xs)) variables)
    ∙ all_pass-and (λ v. has_terms (cell_at cs v) (terms_for v xs)) (λ v. is_free (cell_at cs v) || some (terms_for v xs)) variables
    ∙ and_comm (have_terms cs xs) (only_set cs xs))
    ∙ ap (λ (t : Bool). t && (only_set cs xs && have_terms cs xs)) (and_comm (terms_stand xs) long)
    ∙ and-interchange long (terms_stand xs) (only_set cs xs) (have_terms cs xs)
    ∙ ap (λ (t : Bool). (long && only_set cs xs) && t) (and_comm (terms_stand xs) (have_terms cs xs) ∙ says-terms cs xs h)
  where
    one : Bool
    one = all_pass (λ v. all_same (terms_for v xs)) variables

    long : Bool
    long = eqb (length cs) 16

    gave : Bool
    gave = all_pass (λ v. same_cell (cell_at cs v) (first_term (terms_for v xs))) variables

-- ---- the only such tuple

some-append : (vs ws : List ℕ) → some (vs ++ ws) ≡ some vs || some ws
some-append [] ws = refl
some-append (v ∷ vs) ws = refl

-- a slot gives a variable a term where the variable stands there
slot-some : (v : ℕ) (s : Slot) (b : ℕ) → some (only_if (is_variable v s) (b ∷ [])) ≡ any_pass (eqb v) (slot_variables s)
slot-some v (a_term a) b = refl
slot-some v (a_variable w) b = at (eqb v w)
  where
    at : (t : Bool) → some (only_if t (b ∷ [])) ≡ t || false
    at true = refl
    at false = refl

-- a variable gets a term just where it stands in the patterns
terms_for-some : (v : ℕ) (ps : List Pattern) (us : List Fact) → length us ≡ length ps
    → some (terms_for v (filled_slots ps us)) ≡ any_pass (eqb v) (concat_map variables_of ps)
terms_for-some v [] us e = refl
terms_for-some v (p ∷ ps) [] e = absurd (omega arith)
terms_for-some v (p ∷ ps) (f ∷ us) e = at (terms_for-some v ps us (omega arith))
  where
    given : Slot → ℕ → List ℕ
    given s b = only_if (is_variable v s) (b ∷ [])

    stands : Slot → Bool
    stands s = any_pass (eqb v) (slot_variables s)

    rest : List ℕ
    rest = terms_for v (filled_slots ps us)

    others : Bool
    others = any_pass (eqb v) (concat_map variables_of ps)

    at : some rest ≡ any_pass (eqb v) (concat_map variables_of ps)
        → some (terms_for v (filled_slots (p ∷ ps) (f ∷ us))) ≡ any_pass (eqb v) (variables_of p ++ concat_map variables_of ps)
    at later =
        let vs = slot_variables p.predicate ++ slot_variables p.object in
        rw (
          some-append (given p.subject f.subject) (given p.predicate f.predicate ++ (given p.object f.object ++ rest)),
          some-append (given p.predicate f.predicate) (given p.object f.object ++ rest),
          some-append (given p.object f.object) rest,
          slot-some v p.subject f.subject,
          slot-some v p.predicate f.predicate,
          slot-some v p.object f.object,
          later,
          any_pass-append (eqb v) (variables_of p) (concat_map variables_of ps),
          any_pass-append (eqb v) (slot_variables p.subject) vs,
          any_pass-append (eqb v) (slot_variables p.predicate) (slot_variables p.object),
        )
        (sym (or_assoc (stands p.subject) (stands p.predicate || stands p.object) others
        ∙ ap (λ (t : Bool). stands p.subject || t) (or_assoc (stands p.predicate) (stands p.object) others)))

-- a tuple has as many records as were asked for
tuples-length : (fs : List Fact) (n : ℕ) → Every (λ us. length us ≡ n) (tuples fs n)
unfolding tuples
tuples-length fs zero = (refl, tt)
tuples-length fs (suc n) =
    every-concat_map (λ us. length us ≡ suc n) (λ f. map (λ us. f ∷ us) (tuples fs n)) fs
    (every_of (λ f. every_map (λ us. length us ≡ suc n) (λ us. f ∷ us) (tuples fs n)
    (every-weaken (λ us e. ap suc e) (tuples fs n) (tuples-length fs n))) fs)

-- at most one element passes, where those that pass have the same value, and values rise
keep_if-once : {A : Type 0} (k : A → ℕ) (p : A → Bool) (xs : List A) → ((x y : A) → p x ≡ true → p y ≡ true → k x ≡ k y) → Rising k xs
    → length (keep_if p xs) ≤ 1
keep_if-once k p [] same r = zero-le
keep_if-once {A = A} k p (x ∷ xs) same r = at (p x) refl (keep_if-once k p xs same r.1)
  where
    fails : p x ≡ true → (y : A) → k x < k y → (b : Bool) → p y ≡ b → b ≡ false
    fails d y l true e = absurd (omega (arith, same x y d e))
    fails d y l false e = refl

    at : (b : Bool) → p x ≡ b → length (keep_if p xs) ≤ 1 → length (cons_if b x (keep_if p xs)) ≤ 1
    at true e h = rw (keep_if-none p xs (every-weaken (λ y l. fails e y l (p y) refl) xs r.0)) (omega arith)
    at false e h = h

-- the slots of a pattern that becomes the triple of a fact
pub becomes-parts : (cs : List Cell) (p : Pattern) (f : Fact) → becomes cs p f ≡ true
    → (same_cell (slot_cell cs p.subject) (term f.subject) ≡ true)
    × (same_cell (slot_cell cs p.predicate) (term f.predicate) ≡ true) × (same_cell (slot_cell cs p.object) (term f.object) ≡ true)
becomes-parts cs p f h =
    and-three (same_cell (slot_cell cs p.subject) (term f.subject)) (same_cell (slot_cell cs p.predicate) (term f.predicate))
    (same_cell (slot_cell cs p.object) (term f.object)) h

-- a pattern becomes one triple
becomes-key : (cs : List Cell) (p : Pattern) (f g : Fact) → becomes cs p f ≡ true → becomes cs p g ≡ true → key f ≡ key g
becomes-key cs p f g d e =
    let of-f = becomes-parts cs p f d in
    let of-g = becomes-parts cs p g e in
    omega (
      arith,
      one p.subject f.subject g.subject of-f.0 of-g.0,
      one p.predicate f.predicate g.predicate of-f.1 of-g.1,
      one p.object f.object g.object of-f.2 of-g.2,
    )
  where
    at : Slot → ℕ → Bool
    at s b = same_cell (slot_cell cs s) (term b)

    one : (s : Slot) (a b : ℕ) → at s a ≡ true → at s b ≡ true → a ≡ b
    one s a b h k =
        let same : term a ≡ term b = sym (same_cell-true (slot_cell cs s) (term a) h) ∙ same_cell-true (slot_cell cs s) (term b) k in cc

-- the records that make one element each, where they pass a test and all do
concat_map-passing : {A B : Type 0} (p : A → Bool) (b : Bool) (h : A → B) (xs : List A)
    → concat_map (λ x. only_if (p x) (only_if b (h x ∷ []))) xs ≡ only_if b (map h (keep_if p xs))
concat_map-passing p true h [] = refl
concat_map-passing p false h [] = refl
concat_map-passing p b h (x ∷ xs) = at (p x) b (concat_map-passing p b h xs)
  where
    at : (t d : Bool) → concat_map (λ y. only_if (p y) (only_if d (h y ∷ []))) xs ≡ only_if d (map h (keep_if p xs))
        → only_if t (only_if d (h x ∷ [])) ++ concat_map (λ y. only_if (p y) (only_if d (h y ∷ []))) xs
        ≡ only_if d (map h (cons_if t x (keep_if p xs)))
    at true true e = ap (λ (r : List _). h x ∷ r) e
    at true false e = e
    at false d e = e

only_if-none : {A : Type 0} (b : Bool) → only_if {A = A} b [] ≡ []
only_if-none true = refl
only_if-none false = refl

some-keep_if : {A : Type 0} (p : A → Bool) (xs : List A) → some (keep_if p xs) ≡ any_pass p xs
some-keep_if p [] = refl
some-keep_if p (x ∷ xs) = at (p x) (some-keep_if p xs)
  where
    at : (t : Bool) → some (keep_if p xs) ≡ any_pass p xs → some (cons_if t x (keep_if p xs)) ≡ t || any_pass p xs
    at true e = refl
    at false e = e

-- the records that the patterns become, pattern by pattern
abbrev instances : List Fact → List Pattern → List Cell → List Fact
instances fs ps cs = concat_map (λ p. keep_if (becomes cs p) fs) ps

-- of all tuples, at most one gives every pattern the record that it becomes
tuples-says : (fs : List Fact) (cs : List Cell) → Rising key fs → (ps : List Pattern)
    → keep_if (λ us. all_pass (says cs) (filled_slots ps us)) (tuples fs (length ps))
    ≡ only_if (all_pass (becomes_record fs cs) ps) (instances fs ps cs ∷ [])
unfolding tuples
tuples-says fs cs r [] = refl
tuples-says fs cs r (p ∷ ps) =
    keep_if-concat_map test (λ f. map (λ us. f ∷ us) later) fs
    ∙ concat_map-same (λ f. keep_if test (map (λ us. f ∷ us) later)) (λ f. only_if (becomes cs p f) (only_if all ((f ∷ rest) ∷ []))) fs
    (λ f. by_fact f (tuples-says fs cs r ps))
    ∙ concat_map-passing (becomes cs p) all (λ f. f ∷ rest) fs
    ∙ first (keep_if (becomes cs p) fs) (keep_if-once key (becomes cs p) fs (becomes-key cs p) r)
    ∙ ap (λ (t : Bool). only_if (t && all) ((keep_if (becomes cs p) fs ++ rest) ∷ [])) (some-keep_if (becomes cs p) fs)
  where
    later : List (List Fact)
    later = tuples fs (length ps)

    test : List Fact → Bool
    test us = all_pass (says cs) (filled_slots (p ∷ ps) us)

    all : Bool
    all = all_pass (becomes_record fs cs) ps

    rest : List Fact
    rest = instances fs ps cs

    -- a tuple passes where its first record does, and then the others
    on_first : (f : Fact) (us : List Fact) → test (f ∷ us) ≡ becomes cs p f && all_pass (says cs) (filled_slots ps us)
    on_first f us =
        and-regroup (same_cell (slot_cell cs p.subject) (term f.subject))
        (same_cell (slot_cell cs p.predicate) (term f.predicate)) (same_cell (slot_cell cs p.object) (term f.object))
        (all_pass (says cs) (filled_slots ps us))

    by_fact : (f : Fact) → keep_if (λ us. all_pass (says cs) (filled_slots ps us)) later ≡ only_if all (rest ∷ [])
        → keep_if test (map (λ us. f ∷ us) later) ≡ only_if (becomes cs p f) (only_if all ((f ∷ rest) ∷ []))
    by_fact f e =
        keep_if-map test (λ us. f ∷ us) later
        ∙ ap (map (λ us. f ∷ us))
        (keep_if-cong _ (λ us. becomes cs p f && all_pass (says cs) (filled_slots ps us)) later (every_of (on_first f) later)
        ∙ keep_if-and (becomes cs p f) (λ us. all_pass (says cs) (filled_slots ps us)) later
        ∙ ap (only_if (becomes cs p f)) e)
        ∙ map-only_if (λ us. f ∷ us) (becomes cs p f) (only_if all (rest ∷ []))
        ∙ ap (only_if (becomes cs p f)) (map-only_if (λ us. f ∷ us) all (rest ∷ []))

    first : (ks : List Fact) → length ks ≤ 1 → only_if all (map (λ f. f ∷ rest) ks) ≡ only_if (some ks && all) ((ks ++ rest) ∷ [])
    first [] h = only_if-none all
    first (k ∷ []) h = refl
    first (k ∷ j ∷ ks) h = absurd (omega arith)

-- ---- pattern sets

-- the variables of the slots are those of the patterns
slots-in_range : (ps : List Pattern) (us : List Fact) → Every (λ v. v < 16) (concat_map variables_of ps) → SlotsInRange (filled_slots ps us)
slots-in_range [] us h = tt
slots-in_range (p ∷ ps) [] h = tt
slots-in_range (p ∷ ps) (f ∷ us) h =
    let parts = every-parts (λ v. v < 16) (variables_of p) (concat_map variables_of ps) h in
    let slots = every-slot (λ v. v < 16) p parts.0 in
    (slots.0, (slots.1, (slots.2, slots-in_range ps us parts.1)))

-- how many elements pass four tests, the last of which looks at the element, of one element or none
length-one : {A : Type 0} (l o b : Bool) (p : A → Bool) (x : A)
    → length (keep_if p (only_if (l && o) (only_if b (x ∷ [])))) ≡ count_if (((l && b) && o) && p x) 1
length-one false o b p x = refl
length-one true true true p x = at (p x)
  where
    at : (t : Bool) → length (cons_if t x []) ≡ count_if t 1
    at true = refl
    at false = refl
length-one true true false p x = refl
length-one true false true p x = refl
length-one true false false p x = refl

-- a test on what passes one of two
all_pass-either : {A : Type 0} (q a b : A → Bool) (xs : List A)
    → all_pass q (keep_if (λ x. a x || b x) xs) ≡ all_pass q (keep_if a xs) && all_pass q (keep_if b xs)
all_pass-either q a b xs =
    all_pass-keep_if q (λ x. a x || b x) xs
    ∙ all_pass-cong (λ x. not (a x || b x) || q x) (λ x. (not (a x) || q x) && (not (b x) || q x)) xs
    (every_of (λ x. at (a x) (b x) (q x)) xs)
    ∙ all_pass-and (λ x. not (a x) || q x) (λ x. not (b x) || q x) xs
    ∙ sym (rw (all_pass-keep_if q a xs, all_pass-keep_if q b xs))
  where
    at : (a b q : Bool) → not (a || b) || q ≡ (not a || q) && (not b || q)
    at true true q = sym (and_self q)
    at true false q = and_comm true q
    at false b q = refl

-- pattern by pattern they are the records of the subgraph
instances-subgraph : (fs : List Fact) (ps : List Pattern) (cs : List Cell) → SameRecords (instances fs ps cs) (subgraph fs ps cs)
instances-subgraph fs [] cs q = sym (ap (all_pass q) (keep_if-none (λ f. false) fs (every_of (λ f. refl) fs)))
instances-subgraph fs (p ∷ ps) cs q =
    all_pass-append q (keep_if (becomes cs p) fs) (instances fs ps cs)
    ∙ ap (λ (t : Bool). all_pass q (keep_if (becomes cs p) fs) && t) (instances-subgraph fs ps cs q)
    ∙ sym (all_pass-either q (becomes cs p) (λ f. any_pass (λ r. becomes cs r f) ps) fs)

-- over facts whose triples rise, a pattern set lists every solution once, and nothing else
pub cardinality-set : (g : Aggregate) → SetAggregate g → (fs : List Fact) → Rising key fs → (ps : List Pattern)
    → Every (λ v. v < 16) (concat_map variables_of ps) → (r : Row) → cardinality (set_rows g fs ps) r ≡ set_cardinality g fs ps r
unfolding tuple_rows
cardinality-set g set fs k ps h r =
    ap (λ (xs : List Row). cardinality xs r) (set_rows-tuples g fs ps)
    ∙ cardinality-map (tuple_row g ps) (keep_if fit all) r
    ∙ ap length
    (keep_if-keep_if (λ us. same_row r (tuple_row g ps us)) fit all
    ∙ keep_if-cong (λ us. fit us && same_row r (tuple_row g ps us)) (λ us. ((long && others) && said us) && trusts us) all
    (every-weaken at all (tuples-length fs (length ps)))
    ∙ sym (keep_if-keep_if trusts (λ us. (long && others) && said us) all)
    ∙ ap (keep_if trusts) (keep_if-and (long && others) said all ∙ ap (only_if (long && others)) (tuples-says fs r.cells k ps)))
    ∙ length-one long others (all_pass (becomes_record fs r.cells) ps) trusts (instances fs ps r.cells)
    ∙ ap (λ (t : Trust). count_if (is_solution fs ps r.cells && same_trust r.trust t) 1)
    (set (instances fs ps r.cells) (subgraph fs ps r.cells)
    (graph-keep_if (λ f. any_pass (λ p. becomes r.cells p f) ps) fs (rising-graph fs k)) (instances-subgraph fs ps r.cells))
  where
    all : List (List Fact)
    all = tuples fs (length ps)

    fit : List Fact → Bool
    fit us = fits (filled_slots ps us)

    long : Bool
    long = eqb (length r.cells) 16

    others : Bool
    others = all_pass (λ v. is_free (cell_at r.cells v) || any_pass (eqb v) (concat_map variables_of ps)) variables

    said : List Fact → Bool
    said us = all_pass (says r.cells) (filled_slots ps us)

    trusts : List Fact → Bool
    trusts us = same_trust r.trust (g us)

    at : (us : List Fact) → length us ≡ length ps
        → fit us && same_row r (tuple_row g ps us) ≡ ((long && others) && said us) && trusts us
    at us e =
        sym (and_assoc (fit us) (same_cells r.cells (filled_cells (filled_slots ps us))) (trusts us))
        ∙ ap (λ (t : Bool). t && trusts us)
        (fits-says r.cells (filled_slots ps us) (slots-in_range ps us h)
        ∙ ap (λ (t : Bool). (long && t) && said us)
        (all_pass-cong (λ v. is_free (cell_at r.cells v) || some (terms_for v (filled_slots ps us)))
        (λ v. is_free (cell_at r.cells v) || any_pass (eqb v) (concat_map variables_of ps)) variables
        (every_of (λ v. ap (λ (t : Bool). is_free (cell_at r.cells v) || t) (terms_for-some v ps us e)) variables)))
