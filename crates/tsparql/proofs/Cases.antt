-- The worked cases of document 01 and some more, as one table about the definitions with one proof, by computation.
-- An entry has what the definitions give on its left and what document 01, 000 or a request says on its right, worked out by hand (texts go
-- through `ascii`, and one printout stands in numbers). Groups: cases 1 to 9; rows, order, trust and solutions; push; conditions;
-- ceilings and tallies; means; totals; refusals and their places. Inputs are in hexadecimal. Printouts are computed by a form of `strikes`
-- that works nothing out twice. Assumes nothing.
use mathlib.Core.Path.{◌≡◌, refl, ap, ◌∙◌}
use mathlib.Core.Bool.{Bool, true, false, not, cond}
use mathlib.Core.List.{List, [], ◌∷◌, ◌++◌, map, map_congr_left}
use Prim.Native.Nat.{ℕ, suc, ◌+◌, ◌*◌, ◌-◌}
use Prim.Native.Char.{code}
use Prim.Native.String.{String, [] as ε, ◌∷◌ as ◌then◌}
use lib.Dec.{eqb, ltb}
use lib.ListN.{length, replicate, length-replicate}
use Rattle.tsparql.specs.Lists.{cons_if, concat_map, up_from}
use Rattle.tsparql.specs.Values.{known, Cell, free, term, Row, compatible, merge_cells}
use Rattle.tsparql.specs.Query.{Slot, a_term, a_variable, Pattern}
use Rattle.tsparql.specs.Conditions.{truth_on, true_on}
use Rattle.tsparql.specs.Rows.{stands, rows_of, space_of, pairs_of}
use Rattle.tsparql.specs.Table.{Fact, big_endian, record_at, fact_of, below, whole_table, fact_at, facts_in}
use Rattle.tsparql.specs.PatternSets.{bind_pattern, matches, choices, least, mean, Aggregation, by_least, by_mean, aggregate, set_rows}
use Rattle.tsparql.specs.PatternSets.{rows_over, space_over, pairs_over}
use Rattle.tsparql.specs.Tuples.{tuples, tuple_rows}
use Rattle.tsparql.specs.Ceiling.{ceiling_of}
use Rattle.tsparql.specs.Push.{push}
use Rattle.tsparql.specs.Writing.{pattern_bytes, condition_bytes, node_bytes}
use Rattle.tsparql.specs.Reading.{read_pattern, read_patterns, condition_step, read_condition_in, read_condition}
use Rattle.tsparql.specs.Reading.{node_step, read_node_in, read_node, read_query, query_node}
use Rattle.tsparql.specs.Check.{refuse, no_refusal, passes, record_refusal, records_refusal, table_refusal}
use Rattle.tsparql.specs.Check.{trust_projections, pattern_variables, variables_refusal, query_refusal, check}
use Rattle.tsparql.specs.Evaluate.{row_length, trust_word, row_words, capacity}
use Rattle.tsparql.specs.Evaluate.{Evaluated, refused_with, answered_with, answer, evaluate_over, evaluate_unless}
use Rattle.tsparql.specs.Rewrite.{rewriting, rewrite_refusal, rewrite}
use Rattle.tsparql.specs.Calls.{evaluate_untallied, ceiling_over, ceiling_call, Tally, tallied}
use Rattle.tsparql.specs.Totals.{least_trust, groups, totals_words, totals_over, totals_untallied}
use Rattle.tsparql.specs.Runs.{Request, TalliedCall, an_evaluation, a_totals, zero_tally, run}
use Rattle.tsparql.specs.Strikes.{ascii, digits, decimal, row_line, refused_line, counts_line, report}
use Rattle.tsparql.specs.Strikes.{facts_limit, program_rows, strikes}
use Rattle.tsparql.specs.Cardinality.{set_cardinality, node_cardinality, published_cardinality, sparql11_cardinality}

-- ---- hexadecimal

-- a digit from its character
nibble : ℕ → ℕ
nibble c = cond (ltb c 58) (c - 48) (c - 55)

nibbles : String → List ℕ
nibbles ε = []
nibbles (c then s) = cons_if (not (eqb (code c) 32)) (nibble (code c)) (nibbles s)

in_pairs : List ℕ → List ℕ
in_pairs [] = []
in_pairs (a ∷ []) = []
in_pairs (a ∷ b ∷ ns) = (16 * a + b) ∷ in_pairs ns

-- bytes from digits in capitals; spaces are passed over
hex : String → List ℕ
hex s = in_pairs (nibbles s)

-- ---- stores and queries

-- the store W
W : List ℕ
W =
    hex "00 00 10 00 0A 00 00 BF 6C"
    ++ (hex "00 00 10 00 0A 00 00 CC B0" ++ (hex "00 00 10 00 14 00 01 5F 08" ++ hex "00 00 20 00 14 00 01 50 00"))

-- only (1,10,12) 200 and (1,20,21) 800
two_records : List ℕ
two_records = hex "00 00 10 00 0A 00 00 CC B0" ++ hex "00 00 10 00 14 00 01 5F 08"

-- (1,10,11) 400 and (1,20,21) 900
low_and_high : List ℕ
low_and_high = hex "00 00 10 00 0A 00 00 BD 78" ++ hex "00 00 10 00 14 00 01 5F 6C"

-- (1,10,11) -5 and (1,20,21) -1000
negative : List ℕ
negative = hex "00 00 10 00 0A 00 00 BB E3" ++ hex "00 00 10 00 14 00 01 58 00"

-- (1,10,11) 0, (1,10,12) 0 and (1,10,13) -1
thirds : List ℕ
thirds = hex "00 00 10 00 0A 00 00 BB E8" ++ (hex "00 00 10 00 0A 00 00 CB E8" ++ hex "00 00 10 00 0A 00 00 DB E7")

-- the sets {?0 20 21}, {?0 10 ?1} and {?2 20 21}
A : List ℕ
A = hex "01 10 00 00 00 00 14 00 00 15"

B : List ℕ
B = hex "01 10 00 00 00 00 0A 10 00 01"

C : List ℕ
C = hex "01 10 00 02 00 00 14 00 00 15"

-- {?0 99 ?1}, which matches nothing; and the pattern of B fifteen times
none : List ℕ
none = hex "01 10 00 00 00 00 63 10 00 01"

fifteen : List ℕ
fifteen = hex "0F" ++ concat_map (λ n. hex "10 00 00 00 00 0A 10 00 01") (up_from 0 15)

-- five patterns without a term, no two of which share a variable
five : List ℕ
five = hex "05" ++ concat_map (λ n. hex "10 00" ++ ((3 * n) ∷ hex "10 00" ++ ((3 * n + 1) ∷ hex "10 00" ++ ((3 * n + 2) ∷ [])))) (up_from 0 5)

-- k unions of sets of fifteen patterns, behind other nodes
unions : List ℕ → ℕ → List ℕ
unions front k = front ++ (replicate k 0x30 ++ concat_map (λ n. fifteen) (up_from 0 (suc k)))

-- 1,024 bytes: a filter, 16 bounds, 6 unions
longest : List ℕ
longest = unions (hex "40 70" ++ concat_map (λ n. hex "60 00 07 D0") (up_from 0 16)) 6

-- the bound 500 to 1000 on a query
E : List ℕ → List ℕ
E q = hex "60 5D C7 D0" ++ q

-- the bounds -1000 to 1000, and -1000 to 500
any_known : List ℕ → List ℕ
any_known q = hex "60 00 07 D0" ++ q

at_most500 : List ℕ → List ℕ
at_most500 q = hex "60 00 05 DC" ++ q

join_aB : List ℕ
join_aB = hex "10" ++ (A ++ B)

-- the patterns ?0 10 11, ?0 10 12 and ?0 10 ?1
p11 : List ℕ
p11 = hex "10 00 00 00 00 0A 00 00 0B"

p12 : List ℕ
p12 = hex "10 00 00 00 00 0A 00 00 0C"

p_any : List ℕ
p_any = hex "10 00 00 00 00 0A 10 00 01"

-- the join of {?0 10 11, ?0 10 12} and A
join_two : List ℕ
join_two = hex "10 02" ++ (p11 ++ (p12 ++ A))

-- the left join of A and B under a condition
left_aB : List ℕ → List ℕ
left_aB c = hex "20" ++ (c ++ (A ++ B))

-- ---- what the definitions give

-- the same bytes: antt works them out here, and not again wherever they are read
worked : List ℕ → List ℕ
worked [] = []
worked (b ∷ s) = b ∷ worked s

worked-is : (s : List ℕ) → worked s ≡ s
unfolding worked
worked-is [] = refl
worked-is (b ∷ s) = ap (λ (r : List ℕ). b ∷ r) (worked-is s)

-- an evaluation in so many words, all 7 at first: number, place, rows, peak, pairs, and the row space at the end
evaluated_by : Aggregation → List ℕ → List ℕ → ℕ → List ℕ
evaluated_by g t q words = let e = evaluate_untallied t q g (replicate words 7) in
    e.refusal.number ∷ e.refusal.place ∷ e.rows ∷ e.peak ∷ e.pairs ∷ e.row_space

evaluated : List ℕ → List ℕ → ℕ → List ℕ
evaluated t q words = evaluated_by by_least t q words

-- the lines of the rows of a query by the mean
mean_lines : List ℕ → List ℕ → List ℕ
mean_lines t q = concat_map row_line (rows_over mean (facts_in (whole_table t) t) (query_node q))

-- number and place of the check
checked : List ℕ → List ℕ → List ℕ
checked t q = (check t q).number ∷ (check t q).place ∷ []

-- number, place and ceiling
ceilings : List ℕ → List ℕ → List ℕ
ceilings t q = let c = ceiling_call t q in c.refusal.number ∷ c.refusal.place ∷ c.ceiling ∷ []

-- a rewriting into so many bytes, all 7 at first: number, place, length, and the output at the end
rewritten : List ℕ → ℕ → List ℕ
rewritten q bytes = let r = rewrite q (replicate bytes 7) in r.refusal.number ∷ r.refusal.place ∷ r.size ∷ r.output

-- subject, predicate, object and trust of a record
fields : List ℕ → List ℕ
fields t = let f = fact_of (record_at t 0) in f.subject ∷ f.predicate ∷ f.object ∷ trust_word f.trust ∷ []

-- totals over W by a variable in so many words and into so many, all 7 at first: number, place, length, and the output at the end
totalled_by : Aggregation → List ℕ → ℕ → ℕ → ℕ → List ℕ
totalled_by g q u words out = let x = totals_untallied W q g u (replicate words 7) (replicate out 7) in
    x.refusal.number ∷ x.refusal.place ∷ x.size ∷ x.output

totalled : List ℕ → ℕ → ℕ → ℕ → List ℕ
totalled q u words out = totalled_by by_least q u words out

-- their row space at the end
totalled_space : List ℕ → ℕ → ℕ → ℕ → List ℕ
totalled_space q u words out = (totals_untallied W q by_least u (replicate words 7) (replicate out 7)).row_space

-- a query over W in the space of one row
request : List ℕ → Request
request q = record { table = W; query = q; aggregation = by_least; row_space = replicate 17 7 }

-- an evaluation of it; totals by ?0 into so many words
evaluation : List ℕ → TalliedCall
evaluation q = an_evaluation (request q)

totals_into : ℕ → List ℕ → TalliedCall
totals_into out q = a_totals (request q) 0 (replicate out 7)

-- answered and refused after calls, from a tally
tallies : Tally → List TalliedCall → List ℕ
tallies a cs = let b = run a cs in b.answered ∷ b.refused ∷ []

-- a pattern of three slots
triple : Slot → Slot → Slot → Pattern
triple s p o = record { subject = s; predicate = p; object = o }

-- the lines of the rows of a pattern set over W, by tuples of records
tuple_lines : List Pattern → List ℕ
tuple_lines ps = concat_map row_line (tuple_rows least (facts_in (whole_table W) W) ps)

-- the patterns of A and B in one set
set_aB : List Pattern
set_aB = triple (a_variable 0) (a_term 20) (a_term 21) ∷ triple (a_variable 0) (a_term 10) (a_variable 1) ∷ []

-- two patterns that become one record
set_twice : List Pattern
set_twice = triple (a_variable 0) (a_term 20) (a_term 21) ∷ triple (a_variable 0) (a_term 20) (a_variable 1) ∷ []

-- a row by its first cells, the others being free, and its trust plus 1000
row_of : List Cell → ℕ → Row
row_of cs t = record { cells = cs ++ replicate (16 - length cs) free; trust = known t }

-- how often it stands among the solutions of a set over W
solutions : List Pattern → List Cell → ℕ → List ℕ
solutions ps cs t = set_cardinality least (facts_in (whole_table W) W) ps (row_of cs t) ∷ []

-- how often it is counted for a query over W, as published and with the difference of SPARQL 1.1
counts : List ℕ → List Cell → ℕ → List ℕ
counts q cs t =
    let fs = facts_in (whole_table W) W in
    published_cardinality least fs (query_node q) (row_of cs t) ∷ sparql11_cardinality least fs (query_node q) (row_of cs t) ∷ []

-- no row of A, and both, under a filter
no_rows : List ℕ
no_rows = ascii "rows 0 peak 2 pairs 0\n"

both_rows : List ℕ
both_rows = ascii "rows 2 peak 2 pairs 0\n800 ?0=1\n? ?0=2\n"

-- ---- the table

infix 10 ◌gives◌ ◌with◌prints◌
pub data Case : Type 0 where
  ◌gives◌ : List ℕ → List ℕ → Case
  -- the program's facts and query, and its printout
  ◌with◌prints◌ : List ℕ → List ℕ → List ℕ → Case

pub computed : Case → List ℕ
computed (x gives y) = x
computed (t with s prints y) = strikes t s

pub expected : Case → List ℕ
expected (x gives y) = y
expected (t with s prints y) = y

-- cases 1 to 9 of document 01
paper_cases : List Case
paper_cases =
    -- 1
    (length (E join_aB) ∷ [] gives 25 ∷ [])
    ∷ (W with E join_aB prints ascii "rows 1 peak 6 pairs 4\n800 ?0=1 ?1=11\n")
    -- 2
    ∷ (length (rewriting (E join_aB)) ∷ [] gives 29 ∷ [])
    ∷ (rewriting (E join_aB) gives hex "10" ++ (E A ++ E B))
    ∷ (W with rewriting (E join_aB) prints ascii "rows 1 peak 3 pairs 1\n800 ?0=1 ?1=11\n")
    -- 3
    ∷ (W with E (left_aB (hex "70")) prints ascii "rows 1 peak 7 pairs 4\n800 ?0=1 ?1=11\n")
    -- 4
    ∷ (rewriting (E (left_aB (hex "70"))) gives E (hex "20 70" ++ (E A ++ B)))
    ∷ (W with rewriting (E (left_aB (hex "70"))) prints ascii "rows 1 peak 5 pairs 2\n800 ?0=1 ?1=11\n")
    -- 5
    ∷ (W with any_known A prints ascii "rows 1 peak 2 pairs 0\n800 ?0=1\n")
    -- 6
    ∷ (W with hex "60 00 07 CF 00" prints ascii "rows 0 peak 1 pairs 0\n")
    -- 7
    ∷ (evaluated W (hex "00") 16 gives 8 ∷ 0 ∷ 0 ∷ 0 ∷ 0 ∷ replicate 16 0)
    ∷ (evaluated W (hex "00") 17 gives 0 ∷ 0 ∷ 1 ∷ 1 ∷ 0 ∷ (replicate 16 0 ++ (2000 ∷ [])))
    -- 8
    ∷ (checked W [] gives 6 ∷ 0 ∷ [])
    ∷ (W with [] prints ascii "refused 6 at 0\n")
    ∷ (checked W (hex "00 00") gives 6 ∷ 1 ∷ [])
    -- 9
    ∷ (ceilings W join_aB gives 0 ∷ 0 ∷ 4 ∷ [])
    ∷ []

-- order, trust, shortcuts, conditions, words
more_cases : List Case
more_cases =
    -- document 01's record: (1, 10, 11) with trust 900; and the last of W, whose trust is unknown
    (fields (hex "00 00 10 00 0A 00 00 BF 6C") gives 1 ∷ 10 ∷ 11 ∷ 1900 ∷ [])
    ∷ (fields (hex "00 00 20 00 14 00 01 50 00") gives 2 ∷ 20 ∷ 21 ∷ 2001 ∷ [])
    -- the greatest trust, 1000, is sound
    ∷ (checked (hex "00 00 10 00 0A 00 00 BF D0") (hex "00") gives 0 ∷ 0 ∷ [])
    -- shortcut: E into the right of a left join would list ?0 = 1 bare
    ∷ (two_records with E (left_aB (hex "70")) prints ascii "rows 0 peak 3 pairs 1\n")
    ∷ (two_records with rewriting (E (left_aB (hex "70"))) prints ascii "rows 0 peak 3 pairs 1\n")
    -- shortcut: -1000 to 1000 as if it were none would list ?0 = 2, which is unknown
    ∷ (rewriting (any_known A) gives any_known A)
    ∷ (W with rewriting (any_known A) prints ascii "rows 1 peak 2 pairs 0\n800 ?0=1\n")
    -- shortcut: an unmatched left row, ?0 = 2, would be listed twice
    ∷ (W with left_aB (hex "70") prints ascii "rows 3 peak 7 pairs 4\n800 ?0=1 ?1=11\n200 ?0=1 ?1=12\n? ?0=2\n")
    -- shortcut: u handed to the operands of a join would lose the row of 400 and 900
    ∷ (low_and_high with at_most500 join_aB prints ascii "rows 1 peak 3 pairs 1\n400 ?0=1 ?1=11\n")
    ∷ (rewriting (at_most500 join_aB) gives at_most500 (hex "10" ++ (any_known A ++ any_known B)))
    ∷ (low_and_high with rewriting (at_most500 join_aB) prints ascii "rows 1 peak 3 pairs 1\n400 ?0=1 ?1=11\n")
    -- a bound in a bound: the greater l and the lesser u
    ∷ (rewriting (E (at_most500 A)) gives hex "60 5D C5 DC" ++ A)
    -- a set of two patterns: by the first pattern's record, then the second's; the least trust
    ∷ (W with hex "02 10 00 00 00 00 0A 10 00 01 10 00 02 00 00 14 00 00 15"
    prints ascii "rows 4 peak 4 pairs 0\n800 ?0=1 ?1=11 ?2=1\n? ?0=1 ?1=11 ?2=2\n200 ?0=1 ?1=12 ?2=1\n? ?0=1 ?1=12 ?2=2\n")
    -- the same set by tuples of records; one whose patterns share a variable; one in which a variable would get two terms
    ∷ (tuple_lines (triple (a_variable 0) (a_term 10) (a_variable 1) ∷ triple (a_variable 2) (a_term 20) (a_term 21) ∷ [])
    gives ascii "800 ?0=1 ?1=11 ?2=1\n? ?0=1 ?1=11 ?2=2\n200 ?0=1 ?1=12 ?2=1\n? ?0=1 ?1=12 ?2=2\n")
    ∷ (tuple_lines set_aB gives ascii "800 ?0=1 ?1=11\n200 ?0=1 ?1=12\n")
    ∷ (tuple_lines (triple (a_variable 0) (a_term 10) (a_variable 0) ∷ []) gives [])
    -- solutions: with the trust of the records once; with another trust, with a free variable, with one that stands nowhere, never
    ∷ (solutions set_aB (term 1 ∷ term 11 ∷ []) 1800 gives 1 ∷ [])
    ∷ (solutions set_aB (term 1 ∷ term 11 ∷ []) 1900 gives 0 ∷ [])
    ∷ (solutions set_aB (term 1 ∷ []) 1800 gives 0 ∷ [])
    ∷ (solutions set_aB (term 1 ∷ term 11 ∷ term 1 ∷ []) 1800 gives 0 ∷ [])
    -- two patterns that become one record
    ∷ (tuple_lines set_twice gives ascii "800 ?0=1 ?1=21\n? ?0=2 ?1=21\n")
    ∷ (solutions set_twice (term 1 ∷ term 21 ∷ []) 1800 gives 1 ∷ [])
    -- a variable that stands twice gets one term: {?0 10 ?0} has no row
    ∷ (W with hex "01 10 00 00 00 00 0A 10 00 00" prints ascii "rows 0 peak 0 pairs 0\n")
    -- a join: by the left row, then the right row
    ∷ (W with hex "10" ++ (B ++ C)
    prints ascii "rows 4 peak 8 pairs 4\n800 ?0=1 ?1=11 ?2=1\n? ?0=1 ?1=11 ?2=2\n200 ?0=1 ?1=12 ?2=1\n? ?0=1 ?1=12 ?2=2\n")
    -- a union: left rows, then right rows
    ∷ (W with hex "30" ++ (A ++ B)
    prints ascii "rows 4 peak 4 pairs 0\n800 ?0=1\n? ?0=2\n900 ?0=1 ?1=11\n200 ?0=1 ?1=12\n")
    -- a left join whose condition, ?1 same as the free ?2, errs on each merge of ?0 = 1: that row itself, once
    ∷ (W with left_aB (hex "11 02") prints ascii "rows 2 peak 6 pairs 4\n800 ?0=1\n? ?0=2\n")
    -- an error on one merge and false on the other: the same
    ∷ (W with left_aB (hex "50 21 00 00 0B 11 02") prints ascii "rows 2 peak 6 pairs 4\n800 ?0=1\n? ?0=2\n")
    -- left rows that stand twice, and an error on each merge: each of them, once
    ∷ (W with hex "20 11 02 30" ++ (A ++ (A ++ B)) prints ascii "rows 4 peak 10 pairs 8\n800 ?0=1\n? ?0=2\n800 ?0=1\n? ?0=2\n")
    -- the trust of the left row, in ?2, less than itself: false where it is known, an error where it is unknown
    ∷ (W with hex "20 32 02 52" ++ (A ++ hex "00") prints ascii "rows 2 peak 5 pairs 2\n800 ?0=1 ?2=t800\n? ?0=2 ?2=t?\n")
    -- true on one merge and an error on the other: the true one, and not the row itself
    ∷ (W with left_aB (hex "60 21 00 00 0B 11 02") prints ascii "rows 2 peak 6 pairs 4\n800 ?0=1 ?1=11\n? ?0=2\n")
    -- false on every merge: the left rows themselves
    ∷ (W with left_aB (hex "40 70") prints ascii "rows 2 peak 6 pairs 4\n800 ?0=1\n? ?0=2\n")
    -- the left row ?0 = 1 as published, and in SPARQL 1.1: under an error, an error and false, false, true and an error; and its merge then
    ∷ (counts (left_aB (hex "11 02")) (term 1 ∷ []) 1800 gives 0 ∷ 1 ∷ [])
    ∷ (counts (left_aB (hex "50 21 00 00 0B 11 02")) (term 1 ∷ []) 1800 gives 0 ∷ 1 ∷ [])
    ∷ (counts (left_aB (hex "40 70")) (term 1 ∷ []) 1800 gives 1 ∷ 1 ∷ [])
    ∷ (counts (left_aB (hex "60 21 00 00 0B 11 02")) (term 1 ∷ []) 1800 gives 0 ∷ 0 ∷ [])
    ∷ (counts (left_aB (hex "60 21 00 00 0B 11 02")) (term 1 ∷ term 11 ∷ []) 1800 gives 1 ∷ 1 ∷ [])
    -- and where it stands twice
    ∷ (counts (hex "20 11 02 30" ++ (A ++ (A ++ B))) (term 1 ∷ []) 1800 gives 0 ∷ 2 ∷ [])
    -- an unknown trust: projected, bound on it, an error for same
    ∷ (W with hex "51" ++ A prints ascii "rows 2 peak 2 pairs 0\n800 ?0=1 ?1=t800\n? ?0=2 ?1=t?\n")
    ∷ (W with hex "40 01 51" ++ A prints ascii "rows 2 peak 2 pairs 0\n800 ?0=1 ?1=t800\n? ?0=2 ?1=t?\n")
    ∷ (W with hex "40 11 01 51" ++ A prints ascii "rows 1 peak 2 pairs 0\n800 ?0=1 ?1=t800\n")
    -- a term and a known trust are not the same, which is no error: not of it keeps ?0 = 1
    ∷ (W with hex "40 40 10 01 51" ++ A prints ascii "rows 1 peak 2 pairs 0\n800 ?0=1 ?1=t800\n")
    -- less compares known trusts: 200 below 800
    ∷ (two_records with hex "40 33 02 10 53" ++ (B ++ (hex "52" ++ A))
    prints ascii "rows 1 peak 3 pairs 1\n200 ?0=1 ?1=12 ?2=t800 ?3=t200\n")
    -- trusts below 0
    ∷ (negative with hex "30 52" ++ (A ++ B) prints ascii "rows 2 peak 2 pairs 0\n-1000 ?0=1 ?2=t-1000\n-5 ?0=1 ?1=11\n")
    -- words of a row: a term, an unknown trust, a known one; a word that fits no row is zeroed too
    ∷ (evaluated W (hex "51" ++ A) 35
    gives 0 ∷ 0 ∷ 2 ∷ 2 ∷ 0 ∷ 1 ∷ 1050376 ∷ (replicate 14 0 ++ (1800 ∷ 2 ∷ 1050577 ∷ (replicate 14 0 ++ (2001 ∷ 0 ∷ [])))))
    -- a printout in numbers: rows 1 peak 1 pairs 0, and 1000
    ∷ (W with hex "00"
    prints hex "72 6F 77 73 20 31 20 70 65 61 6B 20 31 20 70 61 69 72 73 20 30 0A 31 30 30 30 0A")
    -- l above u keeps no row
    ∷ (W with hex "60 7D 05 DC" ++ A prints ascii "rows 0 peak 2 pairs 0\n")
    ∷ []

-- what push does to each kind of node
push_cases : List Case
push_cases =
    (rewriting (E (hex "30" ++ (A ++ B))) gives hex "30" ++ (E A ++ E B))
    ∷ (rewriting (E (hex "40 00" ++ A)) gives hex "40 00" ++ E A)
    ∷ (rewriting (E (hex "52" ++ A)) gives hex "52" ++ E A)
    ∷ (rewriting (E (hex "00")) gives E (hex "00"))
    -- a left join is wrapped also where u is below 1000
    ∷ (rewriting (at_most500 (left_aB (hex "70"))) gives at_most500 (hex "20 70" ++ (any_known A ++ B)))
    -- under none nothing changes
    ∷ (rewriting join_aB gives join_aB)
    ∷ (rewriting (left_aB (hex "70")) gives left_aB (hex "70"))
    -- a bound under a join stays there
    ∷ (rewriting (hex "10" ++ (E A ++ B)) gives hex "10" ++ (E A ++ B))
    ∷ []

-- the truths of conditions, as filters: on A's rows ?0 is a term and ?1, ?2 are free; in 51 A ?1 is 800, then unknown
condition_cases : List Case
condition_cases =
    -- bound on a free cell is false
    (W with hex "40 02" ++ A prints no_rows)
    ∷ (W with hex "40 40 02" ++ A prints both_rows)
    -- not of an error is an error; true and an error is an error; false and an error is false
    ∷ (W with hex "40 40 11 02" ++ A prints no_rows)
    ∷ (W with hex "40 50 70 11 02" ++ A prints no_rows)
    ∷ (W with hex "40 40 50 40 70 11 02" ++ A prints both_rows)
    -- true or an error is true; false or an error is an error
    ∷ (W with hex "40 60 11 02 70" ++ A prints both_rows)
    ∷ (W with hex "40 60 11 02 40 70" ++ A prints no_rows)
    -- is-term: on a term, on a free cell an error, on a known trust false, on an unknown one an error
    ∷ (W with hex "40 20 00 00 02" ++ A prints ascii "rows 1 peak 2 pairs 0\n? ?0=2\n")
    ∷ (W with hex "40 40 21 00 00 02" ++ A prints no_rows)
    ∷ (W with hex "40 40 21 00 00 02 51" ++ A prints ascii "rows 1 peak 2 pairs 0\n800 ?0=1 ?1=t800\n")
    -- less: on terms an error, of equal trusts false, on an unknown trust an error
    ∷ (W with hex "40 40 30 00" ++ A prints no_rows)
    ∷ (W with hex "40 40 31 01 51" ++ A prints ascii "rows 1 peak 2 pairs 0\n800 ?0=1 ?1=t800\n")
    ∷ []

-- ceilings and tallies
figure_cases : List Case
figure_cases =
    -- ceilings: the empty set, a union's sum, a left join whose right side is empty; of sets whose patterns share their variables, and
    -- share none; a product that is cut, and beside a 0
    (ceilings W (hex "00") gives 0 ∷ 0 ∷ 1 ∷ [])
    ∷ (ceilings W (hex "30" ++ (A ++ B)) gives 0 ∷ 0 ∷ 4 ∷ [])
    ∷ (ceilings W (hex "20 70" ++ (B ++ none)) gives 0 ∷ 0 ∷ 2 ∷ [])
    ∷ (ceilings W (hex "10 10" ++ (fifteen ++ (fifteen ++ fifteen))) gives 0 ∷ 0 ∷ 8 ∷ [])
    ∷ (ceilings W five gives 0 ∷ 0 ∷ 1024 ∷ [])
    ∷ (ceilings W (hex "10 10 10" ++ (five ++ (five ++ (five ++ five)))) gives 0 ∷ 0 ∷ 4294967295 ∷ [])
    ∷ (ceilings W (hex "10 10 10 10" ++ (five ++ (five ++ (five ++ (five ++ none))))) gives 0 ∷ 0 ∷ 0 ∷ [])
    -- tallies: answered, refused; a count that has stopped
    ∷ (tallies zero_tally (evaluation (hex "00") ∷ evaluation [] ∷ evaluation (hex "00") ∷ []) gives 2 ∷ 1 ∷ [])
    ∷ (tallies (record { answered = 4294967295; refused = 3 }) (evaluation (hex "00") ∷ evaluation [] ∷ []) gives 4294967295 ∷ 4 ∷ [])
    ∷ (tallies (record { answered = 3; refused = 4294967295 }) (evaluation [] ∷ []) gives 3 ∷ 4294967295 ∷ [])
    -- totals count once: answered; refused for the output alone
    ∷ (tallies zero_tally (totals_into 3 (hex "00") ∷ evaluation (hex "00") ∷ totals_into 2 (hex "00") ∷ []) gives 2 ∷ 1 ∷ [])
    ∷ []

-- means (request 4)
mean_cases : List Case
mean_cases =
    -- {?0 10 ?1, ?2 20 21}: of 900 and 800, 900 and unknown, 200 and 800, 200 and unknown
    (mean_lines W (hex "02" ++ (p_any ++ hex "10 00 02 00 00 14 00 00 15"))
    gives ascii "850 ?0=1 ?1=11 ?2=1\n? ?0=1 ?1=11 ?2=2\n500 ?0=1 ?1=12 ?2=1\n? ?0=1 ?1=12 ?2=2\n")
    -- {?0 10 11, ?0 10 ?1}: a record that both patterns use counts once
    ∷ (mean_lines W (hex "02" ++ (p11 ++ p_any)) gives ascii "900 ?0=1 ?1=11\n550 ?0=1 ?1=12\n")
    -- {?0 10 11, ?0 10 ?1, ?0 10 11}: 550, and not 666
    ∷ (mean_lines W (hex "03" ++ (p11 ++ (p_any ++ p11))) gives ascii "900 ?0=1 ?1=11\n550 ?0=1 ?1=12\n")
    -- of -5 and -1000: -502.5, rounded down; of 0, 0 and -1: a third less than 0, rounded down
    ∷ (mean_lines negative (hex "02" ++ (p_any ++ hex "10 00 00 00 00 14 00 00 15")) gives ascii "-503 ?0=1 ?1=11\n")
    ∷ (mean_lines thirds (hex "03" ++ (p11 ++ (p12 ++ hex "10 00 00 00 00 0A 00 00 0D"))) gives ascii "-1 ?0=1\n")
    -- the empty set
    ∷ (mean_lines W (hex "00") gives ascii "1000\n")
    -- a join has the lesser of 550 and 800
    ∷ (mean_lines W join_two gives ascii "550 ?0=1\n")
    -- a bound at the mean, and a thousandth above it
    ∷ (mean_lines W (hex "60 60 E7 D0" ++ join_two) gives ascii "550 ?0=1\n")
    ∷ (mean_lines W (hex "60 60 F7 D0" ++ join_two) gives [])
    -- pushed to the operands, a bound keeps the row whose least record is below it
    ∷ (rewriting (E join_two) gives hex "10" ++ (E (hex "02" ++ (p11 ++ p12)) ++ E A))
    ∷ (mean_lines W (rewriting (E join_two)) gives ascii "550 ?0=1\n")
    -- on the calls; the trust of a group is the least of its rows' means, 900 and 550
    ∷ (evaluated_by by_mean W (hex "02" ++ (p11 ++ p12)) 17 gives 0 ∷ 0 ∷ 1 ∷ 1 ∷ 0 ∷ 1 ∷ (replicate 15 0 ++ (1550 ∷ [])))
    ∷ (evaluated_by by_least W (hex "02" ++ (p11 ++ p12)) 17 gives 0 ∷ 0 ∷ 1 ∷ 1 ∷ 0 ∷ 1 ∷ (replicate 15 0 ++ (1200 ∷ [])))
    ∷ (totalled_by by_mean (hex "02" ++ (p11 ++ p_any)) 0 34 3 gives 0 ∷ 0 ∷ 3 ∷ 1 ∷ 2 ∷ 1550 ∷ [])
    ∷ []

-- totals (request 1)
totals_cases : List Case
totals_cases =
    -- each strike of A, and one word more; the second's sample is unknown
    (totalled A 0 34 7 gives 0 ∷ 0 ∷ 6 ∷ 1 ∷ 1 ∷ 1800 ∷ 2 ∷ 1 ∷ 2001 ∷ 7 ∷ [])
    -- B, A and {?0 20 ?1} together by ?1: the free cells of A are a group between others, unknown since one of its rows is
    ∷ (totalled (hex "30" ++ (B ++ (hex "30" ++ (A ++ hex "01 10 00 00 00 00 14 10 00 01")))) 1 102 12
    gives 0 ∷ 0 ∷ 12 ∷ 11 ∷ 1 ∷ 1900 ∷ 12 ∷ 1 ∷ 1200 ∷ 0 ∷ 2 ∷ 2001 ∷ 21 ∷ 2 ∷ 2001 ∷ [])
    -- the least trust of a group that has two: 900 and 200
    ∷ (totalled B 0 34 3 gives 0 ∷ 0 ∷ 3 ∷ 1 ∷ 2 ∷ 1200 ∷ [])
    -- cells that project trust made: 800, and unknown
    ∷ (totalled (hex "51" ++ A) 1 34 6 gives 0 ∷ 0 ∷ 6 ∷ 1050376 ∷ 1 ∷ 1800 ∷ 1050577 ∷ 1 ∷ 2001 ∷ [])
    -- no rows
    ∷ (totalled none 0 0 0 gives 0 ∷ 0 ∷ 0 ∷ [])
    -- the variable is 16, and there is no room for the rows either: the row space is untouched
    ∷ (totalled A 16 1 1 gives 10 ∷ 0 ∷ 0 ∷ 7 ∷ [])
    ∷ (totalled_space A 16 1 1 gives 7 ∷ [])
    -- 7 comes before; 8 comes before the output's 10
    ∷ (totalled (hex "50" ++ A) 16 1 1 gives 7 ∷ 0 ∷ 0 ∷ 7 ∷ [])
    ∷ (totalled A 0 33 1 gives 8 ∷ 0 ∷ 0 ∷ 7 ∷ [])
    ∷ (totalled_space A 0 33 1 gives replicate 33 0)
    -- an output a word too short is unchanged, and the row space has the row of the empty set
    ∷ (totalled (hex "00") 3 18 2 gives 10 ∷ 3 ∷ 0 ∷ 7 ∷ 7 ∷ [])
    ∷ (totalled_space (hex "00") 3 18 2 gives replicate 16 0 ++ (2000 ∷ 0 ∷ []))
    ∷ []

-- each refusal, and places
refusal_cases : List Case
refusal_cases =
    -- 1 and 2: a table that is not whole records; a facts file that is too long, though it is not whole records either
    (checked (hex "00 00 10 00 0A 00 00 BF") [] gives 1 ∷ 0 ∷ [])
    ∷ (replicate 65530 0 with [] prints ascii "refused 2 at 0\n")
    -- 3: a term of 0; a trust field above 2000; a nonzero trust field beside a known bit of 0
    ∷ (checked (hex "00 00 10 00 0A 00 00 0F 6C") [] gives 3 ∷ 0 ∷ [])
    ∷ (checked (W ++ hex "00 00 30 00 14 00 01 5F D1") [] gives 3 ∷ 4 ∷ [])
    ∷ (checked (hex "00 00 20 00 14 00 01 50 01") [] gives 3 ∷ 0 ∷ [])
    -- 4: the same triple twice; a lesser one; 3 before 4 at one record
    ∷ (checked (W ++ hex "00 00 20 00 14 00 01 5F 08") [] gives 4 ∷ 4 ∷ [])
    ∷ (checked (W ++ hex "00 00 10 00 14 00 01 6F 08") [] gives 4 ∷ 4 ∷ [])
    ∷ (checked (W ++ hex "00 00 10 00 14 00 01 6F D1") [] gives 3 ∷ 4 ∷ [])
    -- 5: after 1 to 4; not at rewriting's limit
    ∷ (length longest ∷ rewritten longest 0 gives 1024 ∷ 9 ∷ 988 ∷ 0 ∷ [])
    ∷ (checked W (replicate 5121 0) gives 5 ∷ 0 ∷ [])
    ∷ (checked (hex "00") (replicate 5121 0) gives 1 ∷ 0 ∷ [])
    ∷ (rewritten (replicate 1025 0) 2 gives 5 ∷ 0 ∷ 0 ∷ 7 ∷ 7 ∷ [])
    -- 6: a truncated pattern, a missing one; a missing operand, left and right; a missing condition
    ∷ (checked W (hex "02 10 00 00 00 00 0A 10 00 01 10 00 02 00 00 14 00 00") gives 6 ∷ 10 ∷ [])
    ∷ (checked W (hex "01") gives 6 ∷ 1 ∷ [])
    ∷ (checked W (hex "10") gives 6 ∷ 1 ∷ [])
    ∷ (checked W (hex "10" ++ A) gives 6 ∷ 11 ∷ [])
    ∷ (checked W (hex "40") gives 6 ∷ 1 ∷ [])
    -- 6: truncated bounds, a bound above 2000, n not 0, an unknown kind, a truncated condition, reserved bits, a term of 0
    ∷ (checked W (hex "10 00 60 00 07") gives 6 ∷ 2 ∷ [])
    ∷ (checked W (hex "60 7D 10 00 00") gives 6 ∷ 0 ∷ [])
    ∷ (checked W (hex "30 00 11 00 00") gives 6 ∷ 2 ∷ [])
    ∷ (checked W (hex "30 00 70") gives 6 ∷ 2 ∷ [])
    ∷ (checked W (hex "40 11") gives 6 ∷ 1 ∷ [])
    ∷ (checked W (hex "40 50 70 31 10 00") gives 6 ∷ 3 ∷ [])
    ∷ (checked W (hex "40 21 00 00 00 00") gives 6 ∷ 1 ∷ [])
    -- 7: two projections of one variable, at the first; a variable that a later pattern has
    ∷ (checked W (hex "30 51" ++ (A ++ (hex "51" ++ A))) gives 7 ∷ 1 ∷ [])
    ∷ (checked W (hex "10 52 51 00" ++ B) gives 7 ∷ 2 ∷ [])
    ∷ (checked W (hex "30 51" ++ (A ++ B)) gives 7 ∷ 1 ∷ [])
    -- refusals 1 to 7 leave the row space; 8 zeroes it
    ∷ (evaluated W (hex "50" ++ A) 2 gives 7 ∷ 0 ∷ 0 ∷ 0 ∷ 0 ∷ 7 ∷ 7 ∷ [])
    ∷ (evaluated W A 33 gives 8 ∷ 0 ∷ 0 ∷ 0 ∷ 0 ∷ replicate 33 0)
    -- 9, with the length needed, and the output as it was; a longer one is unchanged behind the result
    ∷ (rewritten (E A) 13 gives 9 ∷ 14 ∷ 0 ∷ replicate 13 7)
    ∷ (rewritten (E A) 14 gives 0 ∷ 0 ∷ 14 ∷ E A)
    ∷ (rewritten (E A) 15 gives 0 ∷ 0 ∷ 14 ∷ (E A ++ (7 ∷ [])))
    -- ceiling 0 on a refusal
    ∷ (ceilings W (hex "50" ++ A) gives 7 ∷ 0 ∷ 0 ∷ [])
    ∷ []

pub cases : List Case
cases = paper_cases ++ (more_cases ++ (push_cases ++ (condition_cases ++ (figure_cases ++ (mean_cases ++ (totals_cases ++ refusal_cases))))))

-- ---- printouts, with nothing worked out twice

-- the report of an evaluation in so many words, none of which is built
reported : ℕ → List ℕ → List ℕ → List ℕ
reported words t s =
    let r = check t s in
    let q = query_node s in
    let fs = facts_in (whole_table t) t in
    let rs = rows_over least fs q in
    let rows = length rs in
    let peak = space_over least fs q in
    let pairs = pairs_over least fs q in
    let counts : Evaluated = record { refusal = no_refusal; rows = rows; peak = peak; pairs = pairs; row_space = [] } in
    let answered = counts_line counts ++ concat_map row_line rs in
    cond (passes r) (cond (ltb (capacity words) peak) (refused_line (refuse 8 0)) answered) (refused_line r)

reported-is : (words : ℕ) (t s : List ℕ)
    → report (evaluate_untallied t s by_least (replicate words 0)) (rows_over (aggregate by_least) (facts_in (whole_table t) t) (query_node s))
    ≡ reported words t s
unfolding report evaluate_over answer counts_line reported
reported-is words t s =
    rw (length-replicate {A = ℕ} words 0) (go (passes (check t s)) refl (ltb (capacity words) (space_over least fs (query_node s))))
  where
    fs : List Fact
    fs = facts_in (whole_table t) t

    rs : List Row
    rs = rows_over least fs (query_node s)

    counts : Evaluated
    counts = answered_with least fs (query_node s) words

    go : (b : Bool) → passes (check t s) ≡ b → (full : Bool)
        → report (cond b (cond full (refused_with (refuse 8 0) (replicate words 0)) counts) (refused_with (check t s) (replicate words 0))) rs
        ≡ cond b (cond full (refused_line (refuse 8 0)) (counts_line counts ++ concat_map row_line rs)) (refused_line (check t s))
    go true e true = refl
    go true e false = refl
    go false e full = rw e

quick : Case → List ℕ
quick (x gives y) = x
quick (t with s prints y) =
    cond (ltb facts_limit (length t)) (refused_line (refuse 2 0)) (reported (row_length * program_rows) t (worked s))

computed-quick : (c : Case) → computed c ≡ quick c
unfolding computed strikes quick
computed-quick (x gives y) = refl
computed-quick (t with s prints y) = rw (worked-is s, ← reported-is (row_length * program_rows) t s)

-- ---- the proof

-- each opens a group of what the cases compute with
inputs : Unit {0}
unfolding nibble nibbles in_pairs hex W two_records low_and_high negative A B C none fifteen five unions longest E any_known at_most500 join_aB
    left_aB
inputs = tt

entries : Unit {0}
unfolding evaluated_by evaluated checked ceilings rewritten fields no_rows both_rows worked reported quick expected
entries = tt

totalling : Unit {0}
unfolding totalled_by totalled totalled_space request evaluation totals_into tallies
totalling = tt

means : Unit {0}
unfolding thirds p11 p12 p_any join_two mean_lines
means = tt

sets : Unit {0}
unfolding triple tuple_lines set_aB set_twice row_of solutions counts node_cardinality tuples tuple_rows
sets = tt

lists : Unit {0}
unfolding paper_cases more_cases push_cases condition_cases figure_cases mean_cases totals_cases refusal_cases cases
lists = tt

rows : Unit {0}
unfolding compatible merge_cells truth_on true_on stands rows_of space_of pairs_of bind_pattern matches choices least mean set_rows
rows = tt

tables : Unit {0}
unfolding big_endian record_at fact_of below fact_at facts_in record_refusal records_refusal table_refusal
tables = tt

writers : Unit {0}
unfolding pattern_bytes condition_bytes node_bytes push rewriting rewrite_refusal rewrite
writers = tt

readers : Unit {0}
unfolding read_pattern read_patterns condition_step read_condition_in read_condition node_step read_node_in read_node read_query query_node
readers = tt

calls : Unit {0}
unfolding trust_projections pattern_variables variables_refusal query_refusal check row_words answer evaluate_over
calls = tt

figures : Unit {0}
unfolding ceiling_of ceiling_over tallied run evaluate_unless least_trust groups totals_words totals_over
figures = tt

text : Unit {0}
unfolding ascii digits decimal row_line refused_line counts_line
text = tt

-- every entry gives what it should
quick-hold : map quick cases ≡ map expected cases
unfolding inputs entries totalling means sets lists rows tables writers readers calls figures text
quick-hold = refl

pub cases-hold : map computed cases ≡ map expected cases
cases-hold = map_congr_left {f = computed} {g = quick} {l = cases} (λ c m. computed-quick c) ∙ quick-hold
