-- Totals (specs/Totals.antt): the counts of all groups add up to the rows (`counts-add`), and each cell that a row has is in one group
-- (`groups-once`). The call, case by case; beside an evaluation (`totals-beside`, of the calls `totals-evaluate`); its tally
-- (`totals-tally`); of a rewriting (`totals-rewritten`); its sizes (`totals-fit`). Assumes nothing.
use mathlib.Core.Path.{◌≡◌, refl, sym, ap, ◌∙◌}
use mathlib.Core.Bool.{Bool, true, false}
use mathlib.Core.List.{List, [], ◌∷◌, ◌++◌, map}
use Prim.Native.Nat.{ℕ, ◌+◌, ◌*◌, ◌/◌, ◌≤◌, ◌<◌, min}
use native.Mathlib.Nat.{mul-one}
use native.Mathlib.Omega.{arith}
use borrow.Author.Tests.{eqb-true, eqb-false, eq-eqb, ne_eqb, lt-ltb, le-ltb, ltb-true, ltb-false}
use lib.Dec.{ltb}
use lib.ListN.{length, drop, length-map, length-append, length-take, length-drop}
use lib.Seq.{take_at, drop_at}
use Rattle.tsparql.specs.Lists.{keep_if, sum_over, concat_map}
use Rattle.tsparql.specs.Values.{Cell, Row, same_cell}
use Rattle.tsparql.specs.Table.{Fact, View, whole_table, facts_in}
use Rattle.tsparql.specs.PatternSets.{SoundAggregate, Aggregate, Aggregation, aggregate, set_rows, rows_over}
use Rattle.tsparql.specs.Push.{no_bound}
use Rattle.tsparql.specs.Reading.{query_node}
use Rattle.tsparql.specs.Check.{Refusal, refuse, no_refusal, Passes, passes, check}
use Rattle.tsparql.specs.Evaluate.{Evaluated, refused_with, evaluate_over}
use Rattle.tsparql.specs.Rewrite.{Accepted, written}
use Rattle.tsparql.specs.Calls.{Tally, raise_one, tallied, evaluate}
use Rattle.tsparql.specs.Totals.{Group, cell_of, different_cells, rows_with, group_of, groups, group_length, group_words, totals_words}
use Rattle.tsparql.specs.Totals.{counts_in, Totals, variable_refusal, output_refusal, totals_refused, totals_written, totals_after}
use Rattle.tsparql.specs.Totals.{totals_over, totals_call, TotalsBeside}
use Rattle.tsparql.proofs.ListLaws.{keep_if-map}
use Rattle.tsparql.proofs.SumLaws.{sum_over-same, sum_over-map, length-sum, length-distinct, keep_if-distinct, sum-distinct}
use Rattle.tsparql.proofs.Cardinalities.{cell_same}
use Rattle.tsparql.proofs.PushRows.{rows-push}
use Rattle.tsparql.proofs.TableLaws.{facts-sound}
use Rattle.tsparql.proofs.ChoiceLaws.{set_rows-sound}
use Rattle.tsparql.proofs.QueryLaws.{check-parts, query_node-rewriting}
use Rattle.tsparql.proofs.RewriteLaws.{accepted-passes, accepted-written}
use Rattle.tsparql.proofs.Demand3.{demand3-over}
use Rattle.tsparql.proofs.RefusalLaws.{or_else-first, or_else-second, refuse-applies}
use Rattle.tsparql.proofs.EvaluateLaws.{evaluate-checked, evaluate-refused, evaluate-answered, length-space, rows-peak-≤}
use Rattle.tsparql.proofs.CallLaws.{check-fits, evaluate-refusal-fits}
use Rattle.tsparql.proofs.EvaluateLaws.{unless-none, unless-check-refuses, unless-refused}

-- ---- groups

abbrev pub group_count : Group → ℕ
group_count x = x.count

-- rows that have a cell, and cells
count-rows_with : (u : ℕ) (c : Cell) (rs : List Row) → length (rows_with u c rs) ≡ length (keep_if (same_cell c) (map (cell_of u) rs))
count-rows_with u c rs =
    sym (ap length (keep_if-map (same_cell c) (cell_of u) rs) ∙ length-map (rows_with u c rs) (cell_of u))

-- the counts of all groups add up to the rows
pub counts-add : (u : ℕ) (rs : List Row) → sum_over (groups u rs) group_count ≡ length rs
unfolding groups
counts-add u rs =
    let cs = map (cell_of u) rs in
    sum_over-map group_count (group_of u rs) (different_cells u rs)
    ∙ sum_over-same (different_cells u rs) (λ c. length (rows_with u c rs)) (λ c. length (keep_if (same_cell c) cs) * 1)
    (λ c. count-rows_with u c rs ∙ sym (mul-one (length (keep_if (same_cell c) cs))))
    ∙ sym (sum-distinct same_cell cell_same cs (λ _. 1))
    ∙ sym (length-sum cs)
    ∙ length-map rs (cell_of u)

-- the groups of a cell: one if a row has the cell, else none
pub groups-once : (u : ℕ) (c : Cell) (rs : List Row)
    → length (keep_if (λ x. same_cell c x.cell) (groups u rs)) ≡ min 1 (length (rows_with u c rs))
unfolding groups
groups-once u c rs =
    let cs = map (cell_of u) rs in
    ap length (keep_if-map (λ x. same_cell c x.cell) (group_of u rs) (different_cells u rs))
    ∙ length-map (keep_if (same_cell c) (different_cells u rs)) (group_of u rs)
    ∙ ap length (keep_if-distinct same_cell cell_same c cs)
    ∙ length-take 1 (keep_if (same_cell c) cs)
    ∙ ap (min 1) (sym (count-rows_with u c rs))

-- ---- entries

pub length-groups_words : (gs : List Group) → length (concat_map group_words gs) ≡ group_length * length gs
length-groups_words [] = refl
length-groups_words (x ∷ gs) = omega (arith, length-groups_words gs)

counts_in-groups : (gs : List Group) (rest : List ℕ) → counts_in (length gs) (concat_map group_words gs ++ rest) ≡ sum_over gs group_count
unfolding counts_in
counts_in-groups [] rest = refl
counts_in-groups (x ∷ gs) rest = ap (λ (n : ℕ). x.count + n) (counts_in-groups gs rest)

-- the counts of entries, whatever stands behind them, add up to the rows
pub counts-entries : (u : ℕ) (rs : List Row) (rest : List ℕ)
    → counts_in (length (totals_words u rs) / group_length) (totals_words u rs ++ rest) ≡ length rs
unfolding totals_words
counts-entries u rs rest =
    let gs = groups u rs in
    let n : length (concat_map group_words gs) / 3 ≡ length gs = omega (arith, length-groups_words gs) in
    rw n (counts_in-groups gs rest ∙ counts-add u rs)

-- ---- the call

module _ (es out : List ℕ) (e : Evaluated) where
  -- after an evaluation that is refused
  pub after-refused : (Passes e.refusal → ⊥) → totals_after e es out ≡ totals_refused e.refusal e.row_space out
  after-refused h = rw (or_else-first e.refusal (output_refusal es out) h, ne_eqb e.refusal.number 0 h)

  -- after one that is answered, with an output that is too short
  pub after-short : Passes e.refusal → length out < length es
      → totals_after e es out ≡ totals_refused (refuse 10 (length es)) e.row_space out
  after-short z h = rw (or_else-second e.refusal (output_refusal es out) z, lt-ltb (length out) (length es) h)

  -- and with one that is long enough
  pub after-written : Passes e.refusal → length es ≤ length out → totals_after e es out ≡ totals_written es e.row_space out
  after-written z h = rw (or_else-second e.refusal (output_refusal es out) z, le-ltb (length out) (length es) h)

module _ (g : Aggregate) (v : View) (t s : List ℕ) (u : ℕ) (ws out : List ℕ) where
  abbrev es : List ℕ
  es = totals_words u (rows_over g (facts_in v t) (query_node s))

  -- what the check refuses
  pub totals-check-refuses : (Passes (check t s) → ⊥) → totals_over g v t s u ws out ≡ totals_refused (check t s) ws out
  unfolding totals_over
  totals-check-refuses h =
      let is = unless-check-refuses (variable_refusal u) g v t s ws h ∙ evaluate-refused g v t s ws h in
      rw is (after-refused es out (refused_with (check t s) ws) h)

  -- a variable above 15
  pub totals-variable : Passes (check t s) → 15 < u → totals_over g v t s u ws out ≡ totals_refused (refuse 10 0) ws out
  unfolding totals_over
  totals-variable z l =
      let own : variable_refusal u ≡ refuse 10 0 = rw (lt-ltb 15 u l) in
      let no : Passes (variable_refusal u) → ⊥ = λ p. refuse-applies 10 0 (omega arith) (rw own at p) in
      let is = unless-refused (variable_refusal u) g v t s ws z no ∙ ap (λ (r : Refusal). refused_with r ws) own in
      rw is

  -- a variable up to 15: the totals after the evaluation
  pub totals-evaluated : u ≤ 15 → totals_over g v t s u ws out ≡ totals_after (evaluate_over g v t s ws) es out
  unfolding totals_over
  totals-evaluated l =
      let none : variable_refusal u ≡ no_refusal = rw (le-ltb 15 u l) in
      rw (unless-none (variable_refusal u) g v t s ws (ap (λ r. r.number) none))

  abbrev e : Evaluated
  e = evaluate_over g v t s ws

  -- what is shown of the five cases is shown of the call
  pub totals-cases : (P : Totals → Type 0) → ((Passes (check t s) → ⊥) → P (totals_refused (check t s) ws out))
      → (Passes (check t s) → 15 < u → P (totals_refused (refuse 10 0) ws out))
      → (Passes (check t s) → u ≤ 15 → (Passes e.refusal → ⊥) → P (totals_refused e.refusal e.row_space out))
      → (Passes (check t s) → u ≤ 15 → Passes e.refusal → length out < length es
      → P (totals_refused (refuse 10 (length es)) e.row_space out))
      → (Passes (check t s) → u ≤ 15 → Passes e.refusal → length es ≤ length out → P (totals_written es e.row_space out))
      → P (totals_over g v t s u ws out)
  totals-cases P unchecked variable refused short written =
      go (passes (check t s)) refl (ltb 15 u) refl (passes e.refusal) refl (ltb (length out) (length es)) refl
    where
      go : (a : Bool) → passes (check t s) ≡ a → (b : Bool) → ltb 15 u ≡ b → (c : Bool) → passes e.refusal ≡ c
          → (d : Bool) → ltb (length out) (length es) ≡ d → P (totals_over g v t s u ws out)
      go false h b i c j d k = let z = eqb-false (check t s).number 0 h in rw (totals-check-refuses z) (unchecked z)
      go true h true i c j d k =
          let z = eqb-true (check t s).number 0 h in
          let l = ltb-true 15 u i in
          rw (totals-variable z l) (variable z l)
      go true h false i false j d k =
          let l = ltb-false 15 u i in
          let p = eqb-false e.refusal.number 0 j in
          rw (totals-evaluated l ∙ after-refused es out e p) (refused (eqb-true (check t s).number 0 h) l p)
      go true h false i true j true k =
          let l = ltb-false 15 u i in
          let p = eqb-true e.refusal.number 0 j in
          let m = ltb-true (length out) (length es) k in
          rw (totals-evaluated l ∙ after-short es out e p m) (short (eqb-true (check t s).number 0 h) l p m)
      go true h false i true j false k =
          let l = ltb-false 15 u i in
          let p = eqb-true e.refusal.number 0 j in
          let m = ltb-false (length out) (length es) k in
          rw (totals-evaluated l ∙ after-written es out e p m) (written (eqb-true (check t s).number 0 h) l p m)

-- ---- beside an evaluation

module _ (t s : List ℕ) (u : ℕ) (rs : List Row) (ws out : List ℕ) where
  abbrev entries : List ℕ
  entries = totals_words u rs

  -- the check refuses
  beside-check-refuses : (ws' : List ℕ) → (Passes (check t s) → ⊥)
      → TotalsBeside t s u rs ws out (totals_refused (check t s) ws out) (refused_with (check t s) ws')
  beside-check-refuses ws' h =
      record {
        as-checked = λ _. refl;
        variable-above = λ z _. absurd (h z);
        as-evaluated = λ _ _. refl;
        output-short = λ _ z _. absurd (h z);
        answered = λ _ z _. absurd (h z);
        size_is = λ z. absurd (h z);
        entries-written = λ z. absurd (h z);
        counts-add-up = λ z. absurd (h z);
        in-one-group = λ c. groups-once u c rs;
        rest-unchanged = refl;
        none_written = λ _. (refl, refl);
        space-as-evaluated = λ z _. absurd (h z);
        space-untouched = λ _. refl;
      }

  -- the variable is above 15
  beside-variable : (e : Evaluated) → Passes (check t s) → 15 < u
      → TotalsBeside t s u rs ws out (totals_refused (refuse 10 0) ws out) e
  beside-variable e z l =
      record {
        as-checked = λ h. absurd (h z);
        variable-above = λ _ _. refl;
        as-evaluated = λ k _. absurd (omega arith);
        output-short = λ k _ _. absurd (omega arith);
        answered = λ k _ _. absurd (omega arith);
        size_is = λ p. absurd (refuse-applies 10 0 (omega arith) p);
        entries-written = λ p. absurd (refuse-applies 10 0 (omega arith) p);
        counts-add-up = λ p. absurd (refuse-applies 10 0 (omega arith) p);
        in-one-group = λ c. groups-once u c rs;
        rest-unchanged = refl;
        none_written = λ _. (refl, refl);
        space-as-evaluated = λ _ k. absurd (omega arith);
        space-untouched = λ _. refl;
      }

  module _ (e : Evaluated) (z : Passes (check t s)) (l : u ≤ 15) where
    -- the evaluation is refused
    beside-refused : (Passes e.refusal → ⊥) → TotalsBeside t s u rs ws out (totals_refused e.refusal e.row_space out) e
    beside-refused h =
        record {
          as-checked = λ k. absurd (k z);
          variable-above = λ _ k. absurd (omega arith);
          as-evaluated = λ _ _. refl;
          output-short = λ _ p _. absurd (h p);
          answered = λ _ p _. absurd (h p);
          size_is = λ p. absurd (h p);
          entries-written = λ p. absurd (h p);
          counts-add-up = λ p. absurd (h p);
          in-one-group = λ c. groups-once u c rs;
          rest-unchanged = refl;
          none_written = λ _. (refl, refl);
          space-as-evaluated = λ _ _. refl;
          space-untouched = λ k. absurd (k z l);
        }

    -- the output is too short
    beside-short : Passes e.refusal → length out < length entries
        → TotalsBeside t s u rs ws out (totals_refused (refuse 10 (length entries)) e.row_space out) e
    beside-short p h =
        record {
          as-checked = λ k. absurd (k z);
          variable-above = λ _ k. absurd (omega arith);
          as-evaluated = λ _ k. absurd (k p);
          output-short = λ _ _ _. refl;
          answered = λ _ _ k. absurd (omega arith);
          size_is = λ k. absurd (refuse-applies 10 0 (omega arith) k);
          entries-written = λ k. absurd (refuse-applies 10 0 (omega arith) k);
          counts-add-up = λ k. absurd (refuse-applies 10 0 (omega arith) k);
          in-one-group = λ c. groups-once u c rs;
          rest-unchanged = refl;
          none_written = λ _. (refl, refl);
          space-as-evaluated = λ _ _. refl;
          space-untouched = λ k. absurd (k z l);
        }

    -- the entries are written
    beside-written : Passes e.refusal → e.rows ≡ length rs → length entries ≤ length out
        → TotalsBeside t s u rs ws out (totals_written entries e.row_space out) e
    beside-written p rows h =
        record {
          as-checked = λ k. absurd (k z);
          variable-above = λ _ k. absurd (omega arith);
          as-evaluated = λ _ k. absurd (k p);
          output-short = λ _ _ k. absurd (omega arith);
          answered = λ _ _ _. refl;
          size_is = λ _. refl;
          entries-written = λ _. take_at entries (drop (length entries) out) (length entries) refl;
          counts-add-up = λ _. counts-entries u rs (drop (length entries) out) ∙ sym rows;
          in-one-group = λ c. groups-once u c rs;
          rest-unchanged = drop_at entries (drop (length entries) out) (length entries) refl;
          none_written = λ k. absurd (k refl);
          space-as-evaluated = λ _ _. refl;
          space-untouched = λ k. absurd (k z l);
        }

-- what request 1 asks, of any aggregate and view: the totals beside an evaluation in a row space of the same length
pub totals-beside : (g : Aggregate) (v : View) (t s : List ℕ) (u : ℕ) (ws ws' out : List ℕ) → length ws ≡ length ws'
    → TotalsBeside t s u (rows_over g (facts_in v t) (query_node s)) ws out (totals_over g v t s u ws out) (evaluate_over g v t s ws')
totals-beside g v t s u ws ws' out same =
    totals-cases g v t s u ws out (λ x. TotalsBeside t s u rs ws out x (evaluate_over g v t s ws'))
    (λ h. rw (evaluate-refused g v t s ws' h) (beside-check-refuses t s u rs ws out ws' h))
    (λ z l. beside-variable t s u rs ws out (evaluate_over g v t s ws') z l)
    (λ z l p. rw (sym (alike z)) (beside-refused t s u rs ws out (evaluate_over g v t s ws) z l p))
    (λ z l p h. rw (sym (alike z)) (beside-short t s u rs ws out (evaluate_over g v t s ws) z l p h))
    (λ z l p h. rw (sym (alike z)) (beside-written t s u rs ws out (evaluate_over g v t s ws) z l p (rows p) h))
  where
    rs : List Row
    rs = rows_over g (facts_in v t) (query_node s)

    alike : Passes (check t s) → evaluate_over g v t s ws ≡ evaluate_over g v t s ws'
    alike z = evaluate-checked g v t s ws z ∙ rw same (sym (evaluate-checked g v t s ws' z))

    rows : Passes (evaluate_over g v t s ws).refusal → (evaluate_over g v t s ws).rows ≡ length rs
    rows p = ap (λ e. e.rows) (evaluate-answered g v t s ws p).answer-is

-- of the calls, with one choice and any two tallies
pub totals-evaluate : (t s : List ℕ) (g : Aggregation) (u : ℕ) (ws ws' out : List ℕ) (a b : Tally) → length ws ≡ length ws'
    → TotalsBeside t s u (rows_over (aggregate g) (facts_in (whole_table t) t) (query_node s)) ws out
    (totals_call t s g u ws out a).totals (evaluate t s g ws' b).evaluated
totals-evaluate t s g u ws ws' out a b same = totals-beside (aggregate g) (whole_table t) t s u ws ws' out same

-- the tally is raised once: as answered where nothing is refused, as refused on any refusal
pub totals-tally : (t s : List ℕ) (g : Aggregation) (u : ℕ) (ws out : List ℕ) (a : Tally)
    → let x = totals_call t s g u ws out a in
    (Passes x.totals.refusal → x.tally ≡ raise_one true a) × ((Passes x.totals.refusal → ⊥) → x.tally ≡ raise_one false a)
unfolding tallied
totals-tally t s g u ws out a =
    let r = (totals_over (aggregate g) (whole_table t) t s u ws out).refusal in
    (λ z. rw (eq-eqb r.number 0 z), λ z. rw (ne_eqb r.number 0 z))

-- ---- of a rewriting

-- what was written for a query lists the query's rows
rows_written : (g : Aggregate) → SoundAggregate g → (v : View) (t s result : List ℕ) → Accepted s result → Passes (check t s)
    → rows_over g (facts_in v t) (query_node (written s result)) ≡ rows_over g (facts_in v t) (query_node s)
rows_written g sound v t s result accepted z =
    let fs = facts_in v t in
    let facts = facts-sound v t (check-parts t s z).0 in
    rw (accepted-written s result accepted, query_node-rewriting s (accepted-passes s result accepted))
    (rows-push (set_rows g fs) (set_rows-sound g sound fs facts) no_bound (query_node s))

-- where the totals of a query are answered, those of what was written for it are the same: entries, output and row space
pub totals-rewritten : (g : Aggregate) → SoundAggregate g → (v : View) (t s : List ℕ) (u : ℕ) (ws ws' out result : List ℕ)
    → Accepted s result → length ws ≡ length ws' → Passes (totals_over g v t s u ws out).refusal
    → totals_over g v t (written s result) u ws' out ≡ totals_over g v t s u ws out
totals-rewritten g sound v t s u ws ws' out result accepted same =
    totals-cases g v t s u ws out (λ x. Passes x.refusal → totals_over g v t (written s result) u ws' out ≡ x)
    (λ h p. absurd (h p))
    (λ z l p. absurd (refuse-applies 10 0 (omega arith) p))
    (λ z l h p. absurd (h p))
    (λ z l p h k. absurd (refuse-applies 10 0 (omega arith) k))
    (λ z l p h k. answered z l p h)
  where
    w : List ℕ
    w = written s result

    fs : List Fact
    fs = facts_in v t

    answered : Passes (check t s) → u ≤ 15 → Passes (evaluate_over g v t s ws).refusal
        → length (totals_words u (rows_over g fs (query_node s))) ≤ length out
        → totals_over g v t w u ws' out ≡ totals_written (totals_words u (rows_over g fs (query_node s))) (evaluate_over g v t s ws).row_space out
    answered z l p h =
        let r = evaluate_over g v t w ws' in
        let alike = (demand3-over g sound v t s result ws ws' accepted same).answered-alike p in
        let rows = rows_written g sound v t s result accepted z in
        let fits = rw (sym rows) at h in
        totals-evaluated g v t w u ws' out l
        ∙ after-written (totals_words u (rows_over g fs (query_node w))) out r (ap (λ x. x.number) alike.no-refusal) fits
        ∙ rw (rows, alike.same-space)

-- ---- sizes

-- no more groups than rows
pub totals-size-≤ : (u : ℕ) (rs : List Row) → length (totals_words u rs) ≤ group_length * length rs
unfolding totals_words groups
totals-size-≤ u rs =
    omega (
      arith,
      length-groups_words (groups u rs),
      length-map (different_cells u rs) (group_of u rs),
      length-distinct same_cell (map (cell_of u) rs),
      length-map rs (cell_of u),
    )

-- number, place and length fit their types: no answer needs more than 196,605 words; row space and output keep their lengths
pub record TotalsFit (words room : ℕ) (x : Totals) : Type 0 where
  pub number_fits : x.refusal.number ≤ 10
  pub place-fits : x.refusal.place ≤ 196605
  pub size_fits : (x.size ≤ room) × (x.size ≤ 196605)
  pub space-kept : length x.row_space ≡ words
  pub output-kept : length x.output ≡ room

pub totals-fit : (t s : List ℕ) (g : Aggregation) (u : ℕ) (ws out : List ℕ) (a : Tally)
    → TotalsFit (length ws) (length out) (totals_call t s g u ws out a).totals
totals-fit t s g u ws out a =
    totals-cases (aggregate g) v t s u ws out (TotalsFit (length ws) (length out))
    (λ h. none (check t s) ws refl (omega (arith, check-fits t s)) (omega (arith, check-fits t s)))
    (λ z l. none (refuse 10 0) ws refl (omega arith) (omega arith))
    (λ z l p. none e.refusal e.row_space long (omega (arith, fits)) (omega (arith, fits)))
    (λ z l p h. none (refuse 10 (length es)) e.row_space long (omega arith) (most p))
    (λ z l p h. record {
      number_fits = omega arith;
      place-fits = omega arith;
      size_fits = (h, most p);
      space-kept = long;
      output-kept = length-append es (drop (length es) out) ∙ rw (length-drop (length es) out) (omega arith);
    })
  where
    v : View
    v = whole_table t

    e : Evaluated
    e = evaluate_over (aggregate g) v t s ws

    rs : List Row
    rs = rows_over (aggregate g) (facts_in v t) (query_node s)

    es : List ℕ
    es = totals_words u rs

    long : length e.row_space ≡ length ws
    long = length-space (aggregate g) v t s ws

    fits : (e.refusal.number ≤ 8) × (e.refusal.place ≤ 65534)
    fits = evaluate-refusal-fits (aggregate g) v t s ws

    most : Passes e.refusal → length es ≤ 196605
    most p =
        let rows : e.rows ≡ length rs = ap (λ x. x.rows) (evaluate-answered (aggregate g) v t s ws p).answer-is in
        omega (arith, rows, rows-peak-≤ (aggregate g) v t s ws p, totals-size-≤ u rs)

    none : (r : Refusal) (space : List ℕ) → length space ≡ length ws → r.number ≤ 10 → r.place ≤ 196605
        → TotalsFit (length ws) (length out) (totals_refused r space out)
    none r space k n p =
        record { number_fits = n; place-fits = p; size_fits = (omega arith, omega arith); space-kept = k; output-kept = refl }
