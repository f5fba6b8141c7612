-- What the program strikes prints, as bytes, from the bytes of its two files (document 01, "Program and small store").
-- An absent file is an empty one. Assumes nothing.
use Rattle.std.specs.Prelude.{not, cond, List, [], ◌∷◌, ◌++◌, ℕ, zero, suc, ◌+◌, ◌*◌, ◌-◌, ◌/◌, ◌%◌, ltb, length, replicate}
use Prim.Native.Char.{code}
use Prim.Native.String.{String, [] as ε, ◌∷◌ as ◌then◌}
use Rattle.tsparql.specs.Lists.{only_if, concat_map}
use Rattle.tsparql.specs.Values.{Trust, known, unknown, Cell, free, term, trusted, Row, variables, cell_at, is_free}
use Rattle.tsparql.specs.Table.{whole_table, facts_in}
use Rattle.tsparql.specs.PatternSets.{by_least, aggregate, rows_over}
use Rattle.tsparql.specs.Reading.{query_node}
use Rattle.tsparql.specs.Check.{Refusal, refuse, passes}
use Rattle.tsparql.specs.Evaluate.{row_length, Evaluated}
use Rattle.tsparql.specs.Calls.{evaluate_untallied}

-- ---- text

-- a text of plain ASCII as bytes
unfoldable pub ascii : String → List ℕ
ascii ε = []
ascii (c then s) = code c ∷ ascii s

-- the decimal digits of n; the first argument bounds how many there are
unfoldable pub digits : ℕ → ℕ → List ℕ
digits zero n = []
digits (suc k) n = let rest = digits k (n / 10) in cond (ltb n 10) ((48 + n) ∷ []) (rest ++ ((48 + n % 10) ∷ []))

-- n has at most n + 1 digits (the law `decimal_step` says it without the bound)
unfoldable pub decimal : ℕ → List ℕ
decimal n = digits (suc n) n

-- a known trust in thousandths
abbrev pub thousandths : ℕ → List ℕ
thousandths t = cond (ltb t 1000) (ascii "-" ++ decimal (1000 - t)) (decimal (t - 1000))

abbrev pub trust_text : Trust → List ℕ
trust_text (known t) = thousandths t
trust_text unknown = ascii "?"

abbrev pub value_text : Cell → List ℕ
value_text free = []
value_text (term a) = decimal a
value_text (trusted t) = ascii "t" ++ trust_text t

-- a space and ?v=value for a variable that is set
abbrev pub cell_text : ℕ → Cell → List ℕ
cell_text v c = only_if (not (is_free c)) (ascii " ?" ++ (decimal v ++ (ascii "=" ++ value_text c)))

-- ---- lines

-- the row's trust, and its set variables, rising
unfoldable pub row_line : Row → List ℕ
row_line r = trust_text r.trust ++ (concat_map (λ v. cell_text v (cell_at r.cells v)) variables ++ ascii "\n")

unfoldable pub refused_line : Refusal → List ℕ
refused_line r = ascii "refused " ++ (decimal r.number ++ (ascii " at " ++ (decimal r.place ++ ascii "\n")))

unfoldable pub counts_line : Evaluated → List ℕ
counts_line e =
    ascii "rows " ++ (decimal e.rows
    ++ (ascii " peak " ++ (decimal e.peak
    ++ (ascii " pairs " ++ (decimal e.pairs ++ ascii "\n")))))

-- an evaluation and the rows that it lists
unfoldable pub report : Evaluated → List Row → List ℕ
report e rs = cond (passes e.refusal) (counts_line e ++ concat_map row_line rs) (refused_line e.refusal)

-- ---- the program

-- the most bytes of a facts file
abbrev pub facts_limit : ℕ
facts_limit = 65529

-- how many rows the program evaluates in
abbrev pub program_rows : ℕ
program_rows = 963

-- a longer facts file first of all; then the evaluation by least trust
unfoldable pub strikes : List ℕ → List ℕ → List ℕ
strikes facts query =
    cond (ltb facts_limit (length facts)) (refused_line (refuse 2 0))
    (report (evaluate_untallied facts query by_least (replicate (row_length * program_rows) 0))
    (rows_over (aggregate by_least) (facts_in (whole_table facts) facts) (query_node query)))
