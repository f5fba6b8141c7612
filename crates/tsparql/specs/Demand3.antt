-- The statement of demand 3: a query that the rewriting accepts and what is written for it, evaluated over one table in two row spaces
-- of one length. A field for each of its parts. The theorem is in proofs/Demand3.antt. Assumes nothing.
use Rattle.std.specs.Prelude.{◌≡◌, List, ℕ, ◌*◌, ◌≤◌, length}
use Rattle.tsparql.specs.Lists.{concat_map}
use Rattle.tsparql.specs.Query.{Node}
use Rattle.tsparql.specs.Table.{Fact, View, facts_in}
use Rattle.tsparql.specs.PatternSets.{Aggregate, rows_over, space_over, pairs_over}
use Rattle.tsparql.specs.Push.{no_bound, push}
use Rattle.tsparql.specs.Writing.{node_bytes}
use Rattle.tsparql.specs.Reading.{query_node}
use Rattle.tsparql.specs.Check.{no_refusal, Passes}
use Rattle.tsparql.specs.Evaluate.{row_words, padded, Evaluated}

-- the counts of an evaluation are those of a node, and the final words are its rows' words, then zeros
pub record AnswersNode (g : Aggregate) (fs : List Fact) (q : Node) (words : ℕ) (e : Evaluated) : Type 0 where
  pub rows_are : e.rows ≡ length (rows_over g fs q)
  pub peak-is : e.peak ≡ space_over g fs q
  pub pairs-are : e.pairs ≡ pairs_over g fs q
  pub words_are : e.row_space ≡ padded (concat_map row_words (rows_over g fs q)) words

-- r is answered as e is: as many rows, the same final row space, no more peak and no more pairs
pub record AnsweredAlike (e r : Evaluated) : Type 0 where
  pub no-refusal : r.refusal ≡ no_refusal
  pub same_rows : r.rows ≡ e.rows
  pub same-space : r.row_space ≡ e.row_space
  pub no-more-peak : r.peak ≤ e.peak
  pub no-more-pairs : r.pairs ≤ e.pairs

-- e is the evaluation of the query s, r that of what is written for it, w, both over the table t in so many words
pub record Demand3 (g : Aggregate) (v : View) (t s w : List ℕ) (words : ℕ) (e r : Evaluated) : Type 0 where
  -- 1. w is the push of the query, as bytes, and at most 5 times as long
  pub push-written : w ≡ node_bytes (push no_bound (query_node s))
  pub five-times : length w ≤ 5 * length s
  -- 2. where the query is answered, so is w, alike
  pub answered-alike : Passes e.refusal → AnsweredAlike e r
  -- 3. and each shows the rows, the space and the pairs of the query's tree and of its push
  pub query-shows : Passes e.refusal → AnswersNode g (facts_in v t) (query_node s) words e
  pub written-shows : Passes e.refusal → AnswersNode g (facts_in v t) (push no_bound (query_node s)) words r
  -- 4. where the query is refused for the table, 1 to 4, w is refused with the same number and place
  pub table-alike : 1 ≤ e.refusal.number → e.refusal.number ≤ 4 → r.refusal ≡ e.refusal
  -- 5. where w is refused for lack of row space, so is the query
  pub full-alike : r.refusal.number ≡ 8 → e.refusal.number ≡ 8
  -- 6. w is never refused with 5, 6 or 7
  pub never-for-query : 5 ≤ r.refusal.number → r.refusal.number ≤ 7 → ⊥
