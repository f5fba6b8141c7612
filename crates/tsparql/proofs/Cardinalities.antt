-- The rows that an operator makes have the cardinalities of the published algebra (specs/Cardinality.antt), with the difference of
-- SPARQL 1.1; how many more left rows that has, exactly (cardinality-errors). Pattern sets are in Solutions, checked queries in Published.
-- By group: tests and lists; the tests of sameness are equality; the cardinality of a row in lists put together; a law per operator; both
-- differences; nodes (cardinality-sparql11); and Definition 3.1 as it is published, for a variable that is free
-- (cardinality-project-free). Sums over distinct rows: SumLaws. Assumes nothing.
use mathlib.Core.Path.{◌≡◌, refl, sym, ap, ap₂, ◌∙◌}
use mathlib.Core.Bool.{Bool, true, false, ◌&&◌, ◌||◌, not, and_comm, and-true}
use mathlib.Core.List.{List, [], ◌∷◌, ◌++◌, map}
use Prim.Native.Nat.{ℕ, ◌+◌, ◌*◌}
use native.Mathlib.Omega.{arith}
use lib.ListN.{length, set, length-append, length-map}
use lib.Seq.{set-set, set-get_or}
use borrow.Author.Tests.{eqb-true, eq-eqb}
use Rattle.tsparql.specs.Lists.{Every, cons_if, only_if, keep_if, all_pass, sum_over, concat_map}
use Rattle.tsparql.specs.Values.{Trust, known, unknown, Cell, free, term, trusted, Row, same_trust, same_cell}
use Rattle.tsparql.specs.Values.{compatible, merge, with_trust, trust_inside}
use Rattle.tsparql.specs.Query.{Pattern, Condition}
use Rattle.tsparql.specs.Query.{Node, pattern_set, join, left_join, union, filter, project_trust, ensure_trust}
use Rattle.tsparql.specs.Conditions.{Truth, holds, fails, errs, truth_on, true_on}
use Rattle.tsparql.specs.Rows.{merges, join_rows, stands, left_join_rows, rows_of}
use Rattle.tsparql.specs.Cardinality.{FreeAt, same_cells, same_row, cardinality, distinct, count_if}
use Rattle.tsparql.specs.Cardinality.{is_false, is_not_true, is_no_error, on_merges, in_difference}
use Rattle.tsparql.specs.Cardinality.{join_cardinality, filter_cardinality, difference_cardinality, left_join_cardinality}
use Rattle.tsparql.specs.Cardinality.{error_cardinality, union_cardinality, project_cardinality, ensure_cardinality}
use Rattle.tsparql.specs.Cardinality.{node_cardinality, NoError}
use Rattle.tsparql.proofs.ListLaws.{and_left, and_right, and_both, test-eq, every_of, every-weaken}
use Rattle.tsparql.proofs.ListLaws.{all_pass-two, all_pass-keep_if}
use Rattle.tsparql.proofs.ListLaws.{cons_if-append, keep_if-append, keep_if-keep_if, keep_if-cong, keep_if-and}
use Rattle.tsparql.proofs.ListLaws.{keep_if-map, keep_if-concat_map}
use Rattle.tsparql.proofs.SumLaws.{sum_over-add, sum_over-mul, sum_over-same, count_if-mul, count_if-and}
use Rattle.tsparql.proofs.SumLaws.{TellsSame, same-of-eq, sum-distinct, length-keep_if-distinct}

-- ---- tests and lists

or-absorb : (p q : Bool) → (p ≡ true → q ≡ true) → p || q ≡ q
or-absorb true q h = sym (h refl)
or-absorb false q h = refl

-- where every element passes the first test, each passes one of two
all_pass-or : {A : Type 0} (p q : A → Bool) (xs : List A) → all_pass p xs ≡ true → all_pass (λ x. p x || q x) xs ≡ true
all_pass-or p q [] e = refl
all_pass-or p q (x ∷ xs) e = rw (and_left (p x) (all_pass p xs) e) (all_pass-or p q xs (and_right (p x) (all_pass p xs) e))

all_pass-map : {A B : Type 0} (p : B → Bool) (f : A → B) (xs : List A) → all_pass p (map f xs) ≡ all_pass (λ x. p (f x)) xs
all_pass-map p f [] = refl
all_pass-map p f (x ∷ xs) = ap (λ (b : Bool). p (f x) && b) (all_pass-map p f xs)

-- each element that passes a test, as a list of its own
concat_map-single : {A : Type 0} (p : A → Bool) (xs : List A) → concat_map (λ x. cons_if (p x) x []) xs ≡ keep_if p xs
concat_map-single p [] = refl
concat_map-single p (x ∷ xs) =
    cons_if-append (p x) x [] (concat_map (λ y. cons_if (p y) y []) xs) ∙ ap (cons_if (p x) x) (concat_map-single p xs)

-- ---- the tests of sameness are equality

pub same_trust-true : (t u : Trust) → same_trust t u ≡ true → t ≡ u
same_trust-true (known a) (known b) e = ap known (eqb-true a b e)
same_trust-true (known a) unknown e = cc
same_trust-true unknown (known b) e = cc
same_trust-true unknown unknown e = refl

pub same_trust-refl : (t : Trust) → same_trust t t ≡ true
same_trust-refl (known a) = eq-eqb a a refl
same_trust-refl unknown = refl

pub same_cell-true : (c d : Cell) → same_cell c d ≡ true → c ≡ d
same_cell-true free free e = refl
same_cell-true free (term b) e = cc
same_cell-true free (trusted u) e = cc
same_cell-true (term a) free e = cc
same_cell-true (term a) (term b) e = ap term (eqb-true a b e)
same_cell-true (term a) (trusted u) e = cc
same_cell-true (trusted t) free e = cc
same_cell-true (trusted t) (term b) e = cc
same_cell-true (trusted t) (trusted u) e = ap trusted (same_trust-true t u e)

pub same_cell-refl : (c : Cell) → same_cell c c ≡ true
same_cell-refl free = refl
same_cell-refl (term a) = eq-eqb a a refl
same_cell-refl (trusted t) = same_trust-refl t

pub cell_same : TellsSame same_cell
cell_same = record { only = same_cell-true; self = same_cell-refl }

pub same_cells-true : (cs ds : List Cell) → same_cells cs ds ≡ true → cs ≡ ds
same_cells-true [] [] e = refl
same_cells-true [] (d ∷ ds) e = cc
same_cells-true (c ∷ cs) [] e = cc
same_cells-true (c ∷ cs) (d ∷ ds) e =
    ap₂ ◌∷◌ (same_cell-true c d (and_left (same_cell c d) (same_cells cs ds) e))
    (same_cells-true cs ds (and_right (same_cell c d) (same_cells cs ds) e))

pub same_cells-refl : (cs : List Cell) → same_cells cs cs ≡ true
same_cells-refl [] = refl
same_cells-refl (c ∷ cs) = and_both (same_cell-refl c) (same_cells-refl cs)

pub same_row-true : (x y : Row) → same_row x y ≡ true → x ≡ y
same_row-true x y e = λ i. record { cells = on_cells i; trust = on_trust i }
  where
    on_cells : x.cells ≡ y.cells
    on_cells = same_cells-true x.cells y.cells (and_left _ (same_trust x.trust y.trust) e)

    on_trust : x.trust ≡ y.trust
    on_trust = same_trust-true x.trust y.trust (and_right (same_cells x.cells y.cells) _ e)

pub same_row-refl : (x : Row) → same_row x x ≡ true
same_row-refl x = and_both (same_cells-refl x.cells) (same_trust-refl x.trust)

pub row_same : TellsSame same_row
row_same = record { only = same_row-true; self = same_row-refl }

-- ---- the cardinality of a row in lists put together

length-only_if-count : (b : Bool) (xs : List Row) → length (only_if b xs) ≡ count_if b (length xs)
length-only_if-count true xs = refl
length-only_if-count false xs = refl

pub cardinality-append : (xs ys : List Row) (r : Row) → cardinality (xs ++ ys) r ≡ cardinality xs r + cardinality ys r
cardinality-append xs ys r =
    ap length (keep_if-append (same_row r) xs ys) ∙ length-append (keep_if (same_row r) xs) (keep_if (same_row r) ys)

-- a row stands among the values as often as an element has it for a value
pub cardinality-map : {A : Type 0} (f : A → Row) (xs : List A) (r : Row)
    → cardinality (map f xs) r ≡ length (keep_if (λ x. same_row r (f x)) xs)
cardinality-map f xs r = ap length (keep_if-map (same_row r) f xs) ∙ length-map (keep_if (λ x. same_row r (f x)) xs) f

pub cardinality-concat_map : (f : Row → List Row) (xs : List Row) (r : Row)
    → cardinality (concat_map f xs) r ≡ sum_over xs (λ x. cardinality (f x) r)
cardinality-concat_map f [] r = refl
cardinality-concat_map f (x ∷ xs) r =
    cardinality-append (f x) (concat_map f xs) r ∙ ap (λ (n : ℕ). cardinality (f x) r + n) (cardinality-concat_map f xs r)

-- what two functions make of each element, counted apart
pub cardinality-concat_map-append : (f g : Row → List Row) (xs : List Row) (r : Row)
    → cardinality (concat_map (λ x. f x ++ g x) xs) r ≡ cardinality (concat_map f xs) r + cardinality (concat_map g xs) r
cardinality-concat_map-append f g xs r =
    cardinality-concat_map (λ x. f x ++ g x) xs r
    ∙ sum_over-same xs _ _ (λ x. cardinality-append (f x) (g x) r)
    ∙ sum_over-add xs (λ x. cardinality (f x) r) (λ x. cardinality (g x) r)
    ∙ ap₂ ◌+◌ (sym (cardinality-concat_map f xs r)) (sym (cardinality-concat_map g xs r))

-- a row that passes the test stands among those that do as often as it stands in the list, and one that fails it never
pub cardinality-keep_if : (p : Row → Bool) (xs : List Row) (r : Row) → cardinality (keep_if p xs) r ≡ count_if (p r) (cardinality xs r)
cardinality-keep_if p xs r =
    ap length kept ∙ length-only_if-count (p r) (keep_if (same_row r) xs)
  where
    at : (x : Row) (b : Bool) → same_row r x ≡ b → p x && b ≡ p r && b
    at x true e = ap (λ (y : Row). p y && true) (sym (same_row-true r x e))
    at x false e = and_comm (p x) false ∙ and_comm false (p r)

    kept : keep_if (same_row r) (keep_if p xs) ≡ only_if (p r) (keep_if (same_row r) xs)
    kept =
        keep_if-keep_if (same_row r) p xs
        ∙ keep_if-cong (λ x. p x && same_row r x) (λ x. p r && same_row r x) xs (every_of (λ x. at x (same_row r x) refl) xs)
        ∙ keep_if-and (p r) (same_row r) xs

-- ---- a law per operator

-- how often a row stands in the merges of a left row
pub cardinality-merges : (x : Row) (ys : List Row) (r : Row)
    → cardinality (merges x ys) r ≡ sum_over (distinct ys) (λ y. count_if (compatible x y && same_row r (merge x y)) (cardinality ys y))
cardinality-merges x ys r =
    cardinality-map (merge x) (keep_if (compatible x) ys) r
    ∙ ap length (keep_if-keep_if (λ y. same_row r (merge x y)) (compatible x) ys)
    ∙ length-keep_if-distinct same_row row_same (λ y. compatible x y && same_row r (merge x y)) ys

pub cardinality-join : (xs ys : List Row) (r : Row) → cardinality (join_rows xs ys) r ≡ join_cardinality xs ys r
cardinality-join xs ys r =
    cardinality-concat_map (λ x. merges x ys) xs r
    ∙ sum-distinct same_row row_same xs (λ x. cardinality (merges x ys) r)
    ∙ sum_over-same (distinct xs) (λ x. cardinality xs x * cardinality (merges x ys) r) products on_left
  where
    merged : Row → Row → Bool
    merged x y = compatible x y && same_row r (merge x y)

    products : Row → ℕ
    products x = sum_over (distinct ys) (λ y. count_if (merged x y) (cardinality xs x * cardinality ys y))

    on_left : (x : Row) → cardinality xs x * cardinality (merges x ys) r ≡ products x
    on_left x =
        ap (λ (n : ℕ). cardinality xs x * n) (cardinality-merges x ys r)
        ∙ sum_over-mul (cardinality xs x) (distinct ys) (λ y. count_if (merged x y) (cardinality ys y))
        ∙ sum_over-same (distinct ys) _ _ (λ y. count_if-mul (merged x y) (cardinality xs x) (cardinality ys y))

pub cardinality-filter : (c : Condition) (xs : List Row) (r : Row)
    → cardinality (keep_if (true_on c) xs) r ≡ filter_cardinality c (cardinality xs) r
cardinality-filter c xs r = cardinality-keep_if (true_on c) xs r

-- of the two sets that the difference unites, the second contains the first
pub in_difference-merges : (keeps : Truth → Bool) (c : Condition) (ys : List Row) (x : Row)
    → in_difference keeps c ys x ≡ on_merges keeps c ys x
in_difference-merges keeps c ys x = or-absorb _ _ (all_pass-or (λ y. not (compatible x y)) _ ys)

-- a left row stands alone just where it is in the difference of SPARQL 1.1
pub stands-in_difference : (c : Condition) (ys : List Row) (x : Row) → stands c (merges x ys) ≡ in_difference is_not_true c ys x
unfolding stands true_on
stands-in_difference c ys x =
    all_pass-map (λ m. not (true_on c m)) (merge x) (keep_if (compatible x) ys)
    ∙ all_pass-keep_if (λ y. not (true_on c (merge x y))) (compatible x) ys
    ∙ sym (in_difference-merges is_not_true c ys x)

pub cardinality-left_join : (c : Condition) (xs ys : List Row) (r : Row)
    → cardinality (left_join_rows c xs ys) r ≡ left_join_cardinality is_not_true c xs ys r
cardinality-left_join c xs ys r =
    cardinality-concat_map-append (λ x. keep_if (true_on c) (merges x ys)) (λ x. cons_if (stands c (merges x ys)) x []) xs r
    ∙ ap₂ ◌+◌ filtered difference
  where
    filtered : cardinality (concat_map (λ x. keep_if (true_on c) (merges x ys)) xs) r ≡ filter_cardinality c (join_cardinality xs ys) r
    filtered =
        ap (λ (zs : List Row). cardinality zs r) (sym (keep_if-concat_map (true_on c) (λ x. merges x ys) xs))
        ∙ cardinality-filter c (join_rows xs ys) r
        ∙ ap (count_if (true_on c r)) (cardinality-join xs ys r)

    difference : cardinality (concat_map (λ x. cons_if (stands c (merges x ys)) x []) xs) r ≡ difference_cardinality is_not_true c xs ys r
    difference =
        ap (λ (zs : List Row). cardinality zs r) (concat_map-single (λ x. stands c (merges x ys)) xs)
        ∙ cardinality-keep_if (λ x. stands c (merges x ys)) xs r
        ∙ ap (λ (b : Bool). count_if b (cardinality xs r)) (stands-in_difference c ys r)

pub cardinality-union : (xs ys : List Row) (r : Row) → cardinality (xs ++ ys) r ≡ union_cardinality xs ys r
cardinality-union xs ys r = cardinality-append xs ys r

pub cardinality-project : (v : ℕ) (xs : List Row) (r : Row) → cardinality (map (with_trust v) xs) r ≡ project_cardinality v xs r
cardinality-project v xs r =
    cardinality-map (with_trust v) xs r ∙ length-keep_if-distinct same_row row_same (λ x. same_row r (with_trust v x)) xs

pub cardinality-ensure : (l u : ℕ) (xs : List Row) (r : Row) → cardinality (keep_if (trust_inside l u) xs) r ≡ ensure_cardinality l u xs r
cardinality-ensure l u xs r = cardinality-keep_if (trust_inside l u) xs r

-- ---- both differences

-- false is what is neither true nor an error
is_false-parts : (t : Truth) → is_false t ≡ is_not_true t && is_no_error t
is_false-parts holds = refl
is_false-parts fails = refl
is_false-parts errs = refl

-- the published difference keeps those of the rows that SPARQL 1.1 keeps on whose merges the condition does not err
pub in_difference-parts : (c : Condition) (ys : List Row) (x : Row)
    → in_difference is_false c ys x ≡ in_difference is_not_true c ys x && on_merges is_no_error c ys x
in_difference-parts c ys x =
    in_difference-merges is_false c ys x
    ∙ all_pass-two (passes is_false) (passes is_not_true) (passes is_no_error) (in_difference is_not_true c ys x) ys
    (every_of (λ y. at (compatible x y) (truth_on (merge x y).cells c)) ys) (sym (in_difference-merges is_not_true c ys x))
  where
    passes : (Truth → Bool) → Row → Bool
    passes p y = not (compatible x y) || p (truth_on (merge x y).cells c)

    at : (b : Bool) (t : Truth) → not b || is_false t ≡ (not b || is_not_true t) && (not b || is_no_error t)
    at true t = is_false-parts t
    at false t = refl

-- what the rows of a left join have beyond the published cardinality: the left rows that stand by an error
pub cardinality-errors : (c : Condition) (xs ys : List Row) (r : Row)
    → cardinality (left_join_rows c xs ys) r ≡ left_join_cardinality is_false c xs ys r + error_cardinality c xs ys r
cardinality-errors c xs ys r = cardinality-left_join c xs ys r ∙ omega (arith, split)
  where
    left : Bool → ℕ
    left b = count_if b (cardinality xs r)

    split : difference_cardinality is_not_true c xs ys r ≡ difference_cardinality is_false c xs ys r + error_cardinality c xs ys r
    split =
        count_if-and (in_difference is_not_true c ys r) (on_merges is_no_error c ys r) (cardinality xs r)
        ∙ ap₂ (λ (b d : Bool). left b + left (d && not (on_merges is_no_error c ys r))) (sym (in_difference-parts c ys r))
        (in_difference-merges is_not_true c ys r)

-- ---- nodes

-- how often a row stands among the rows of a node, with how often it stands in a pattern set as given
pub cardinality-node : (sets : List Pattern → Row → ℕ) (base : List Pattern → List Row) (q : Node) (r : Row)
    → ((ps : List Pattern) → q ≡ pattern_set ps → cardinality (base ps) r ≡ sets ps r)
    → cardinality (rows_of base q) r ≡ node_cardinality is_not_true sets base q r
unfolding rows_of node_cardinality
cardinality-node sets base (pattern_set ps) r h = h ps refl
cardinality-node sets base (join x y) r h = cardinality-join (rows_of base x) (rows_of base y) r
cardinality-node sets base (left_join c x y) r h = cardinality-left_join c (rows_of base x) (rows_of base y) r
cardinality-node sets base (union x y) r h = cardinality-union (rows_of base x) (rows_of base y) r
cardinality-node sets base (filter c x) r h = cardinality-filter c (rows_of base x) r
cardinality-node sets base (project_trust v x) r h = cardinality-project v (rows_of base x) r
cardinality-node sets base (ensure_trust l u x) r h = cardinality-ensure l u (rows_of base x) r

-- of every node and row, whatever the rows of pattern sets are: the cardinality of its operator with the difference of SPARQL 1.1
pub cardinality-sparql11 : (base : List Pattern → List Row) (q : Node) (r : Row)
    → cardinality (rows_of base q) r ≡ node_cardinality is_not_true (λ ps. cardinality (base ps)) base q r
cardinality-sparql11 base q r = cardinality-node (λ ps. cardinality (base ps)) base q r (λ ps e. refl)

-- a row without an error has one cardinality by both differences
pub cardinality-no_error : (sets : List Pattern → Row → ℕ) (base : List Pattern → List Row) (q : Node) (r : Row) → NoError base q r
    → node_cardinality is_not_true sets base q r ≡ node_cardinality is_false sets base q r
unfolding node_cardinality
cardinality-no_error sets base (pattern_set ps) r e = refl
cardinality-no_error sets base (join x y) r e = refl
cardinality-no_error sets base (left_join c x y) r e =
    let kept : Bool = in_difference is_not_true c (rows_of base y) r in
    let same : in_difference is_false c (rows_of base y) r ≡ kept =
    in_difference-parts c (rows_of base y) r ∙ ap (λ (b : Bool). kept && b) e ∙ and-true kept in
    ap (λ (b : Bool). filter_cardinality c (join_cardinality (rows_of base x) (rows_of base y)) r + count_if b (cardinality (rows_of base x) r))
    (sym same)
cardinality-no_error sets base (union x y) r e = refl
cardinality-no_error sets base (filter c x) r e = refl
cardinality-no_error sets base (project_trust v x) r e = refl
cardinality-no_error sets base (ensure_trust l u x) r e = refl

-- ---- Definition 3.1 as it is published

-- a row is known from the row with its trust at v, where v was free
pub with_trust-injective : (v : ℕ) (x y : Row) → FreeAt v x → FreeAt v y → with_trust v x ≡ with_trust v y → x ≡ y
with_trust-injective v x y f g e = λ i. record { cells = on_cells i; trust = (e i).trust }
  where
    back : (z : Row) → FreeAt v z → z.cells ≡ set (with_trust v z).cells v free
    back z h = sym (set-set z.cells v _ free ∙ ap (set z.cells v) (sym h) ∙ set-get_or z.cells v free)

    on_cells : x.cells ≡ y.cells
    on_cells = back x f ∙ ap (λ (z : Row). set z.cells v free) e ∙ sym (back y g)

-- where the variable is free in the row and in every row of the operand, project trust keeps the cardinality
pub cardinality-project-free : (v : ℕ) (xs : List Row) (r : Row) → Every (FreeAt v) xs → FreeAt v r
    → cardinality (map (with_trust v) xs) (with_trust v r) ≡ cardinality xs r
cardinality-project-free v xs r e f =
    cardinality-map (with_trust v) xs (with_trust v r) ∙ ap length (keep_if-cong _ (same_row r) xs (every-weaken at xs e))
  where
    at : (x : Row) → FreeAt v x → same_row (with_trust v r) (with_trust v x) ≡ same_row r x
    at x g =
        test-eq _ (same_row r x)
        (λ h. same-of-eq same_row row_same r x (with_trust-injective v r x f g (same_row-true (with_trust v r) (with_trust v x) h)))
        (λ h. same-of-eq same_row row_same (with_trust v r) (with_trust v x) (ap (with_trust v) (same_row-true r x h)))
