-- Typed queries worked out by hand, as one table about the definitions with one proof, by computation. An entry has a text, and what
-- request 6 says of it: its query, the place of refusal 11, or the whole answer of the call for an output of sevens. Groups: texts that
-- mean something; texts without a derivation; the call. Assumes nothing.
use mathlib.Core.Path.{◌≡◌, refl}
use mathlib.Core.List.{List, [], ◌∷◌, ◌++◌, map}
use mathlib.Core.Option.{Option, some}
use Prim.Native.Nat.{ℕ}
use lib.ListN.{replicate}
use Rattle.tsparql.specs.Lists.{concat_map, up_from}
use Rattle.tsparql.specs.Query.{Slot, a_term, a_variable, Pattern, bound, same, is_term, less, negation, conjunction, disjunction, always}
use Rattle.tsparql.specs.Query.{Node, pattern_set, join, left_join, union, filter, project_trust, ensure_trust}
use Rattle.tsparql.specs.Writing.{pattern_bytes, condition_bytes, node_bytes}
use Rattle.tsparql.specs.Check.{refuse}
use Rattle.tsparql.specs.Rewrite.{Rewritten, wrote_nothing}
use Rattle.tsparql.specs.Strikes.{ascii}
use Rattle.grammar.specs.Meaning.{gathered, projected, bounded, filters, conjoined}
use Rattle.grammar.specs.Automaton.{accepted, fault, onto, run, read}
use Rattle.grammar.specs.TokenMeaning.{semantics, node_of, text_node}
use Rattle.grammar.specs.ReadText.{text_bytes, text_refusal, read_text}

-- ---- patterns and sets

triple : Slot → Slot → Slot → Pattern
triple x y z = record { subject = x; predicate = y; object = z }

-- 1 2 3, and 4 5 6
one : Pattern
one = triple (a_term 1) (a_term 2) (a_term 3)

two : Pattern
two = triple (a_term 4) (a_term 5) (a_term 6)

nothing : Node
nothing = pattern_set []

set_one : Node
set_one = pattern_set (one ∷ [])

set_two : Node
set_two = pattern_set (two ∷ [])

-- 1 2 3 and a dot, so often
ones : ℕ → List ℕ
ones n = concat_map (λ i. ascii "1 2 3.") (up_from 0 n)

-- ---- the table

pub data Said : Type 0 where
  a_query : Option Node → Said
  a_place : ℕ → Said
  an_answer : Rewritten → Said

infix 10 ◌means◌ ◌stops_at◌ ◌into◌answers◌
pub data Case : Type 0 where
  ◌means◌ : List ℕ → Node → Case
  ◌stops_at◌ : List ℕ → ℕ → Case
  -- for an output of so many sevens
  ◌into◌answers◌ : List ℕ → ℕ → Rewritten → Case

said : List ℕ → Said
said s = elim (read s) [ accepted ts ↦ a_query (node_of ts) | fault p ↦ a_place p ]

pub computed : Case → Said
computed (s means x) = said s
computed (s stops_at p) = said s
computed (s into n answers a) = an_answer (read_text s (replicate n 7))

pub expected : Case → Said
expected (s means x) = a_query (some x)
expected (s stops_at p) = a_place p
expected (s into n answers a) = an_answer a

meanings : List Case
meanings =
    -- the example of docs/FORMATS.md
    (ascii "{ ?0 20 21 .\n  OPTIONAL { ?0 30 ?1 FILTER (!(?1 = 7)) }\n  TRUST AS ?2\n  ENSURE TRUST (500, 1000) }"
    means ensure_trust 1500 2000
    (project_trust 2
    (left_join (negation (is_term 1 7))
    (pattern_set (triple (a_variable 0) (a_term 20) (a_term 21) ∷ []))
    (pattern_set (triple (a_variable 0) (a_term 30) (a_variable 1) ∷ [])))))
    -- nothing is the empty set; white space may stand anywhere around tokens
    ∷ (ascii "{}" means nothing)
    ∷ (ascii " {\n} " means nothing)
    -- triples and dots; variables, signs and dots need no space
    ∷ (ascii "{1 2 3}" means set_one)
    ∷ (ascii "{1 2 3.}" means set_one)
    ∷ (ascii "{?0?1?2.1 2?15}"
    means pattern_set (triple (a_variable 0) (a_variable 1) (a_variable 2) ∷ triple (a_term 1) (a_term 2) (a_variable 15) ∷ []))
    ∷ (ascii "{1048575 1 1048575}" means pattern_set (triple (a_term 1048575) (a_term 1) (a_term 1048575) ∷ []))
    -- filters, projections and bounds do not end a set, braces do
    ∷ (ascii "{1 2 3 FILTER(?0=?1) 4 5 6}" means filter (same 0 1) (pattern_set (one ∷ two ∷ [])))
    ∷ (ascii "{1 2 3 TRUST AS ?0 4 5 6}" means project_trust 0 (pattern_set (one ∷ two ∷ [])))
    ∷ (ascii "{1 2 3 ENSURE TRUST(0,0).4 5 6}" means ensure_trust 1000 1000 (pattern_set (one ∷ two ∷ [])))
    ∷ (ascii "{1 2 3{}4 5 6}" means join set_one set_two)
    -- a sixteenth triple begins a set, whatever stands between
    ∷ (ascii "{" ++ (ones 15 ++ ascii "}") means pattern_set (replicate 15 one))
    ∷ (ascii "{" ++ (ones 15 ++ ascii "4 5 6}") means join (pattern_set (replicate 15 one)) set_two)
    ∷ (ascii "{" ++ (ones 8 ++ (ascii "TRUST AS ?0 " ++ (ones 8 ++ ascii "4 5 6}")))
    means project_trust 0 (join (pattern_set (replicate 15 one)) (pattern_set (one ∷ two ∷ []))))
    -- joins from the left; the empty set is dropped from them, on either side and at every depth
    ∷ (ascii "{{1 2 3}{4 5 6}{1 2 3}}" means join (join set_one set_two) set_one)
    ∷ (ascii "{{}{1 2 3}}" means set_one)
    ∷ (ascii "{{1 2 3}{{}{}}}" means set_one)
    -- and from nothing else
    ∷ (ascii "{{}UNION{1 2 3}UNION{{}}}" means union (union nothing set_one) nothing)
    ∷ (ascii "{OPTIONAL{}}" means left_join always nothing nothing)
    ∷ (ascii "{FILTER(BOUND(?0))}" means filter (bound 0) nothing)
    -- an OPTIONAL is left-joined to all before it, and its own filters are the condition
    ∷ (ascii "{1 2 3 OPTIONAL{4 5 6 FILTER(BOUND(?0)) FILTER(?1<?2)} 4 5 6}"
    means join (left_join (conjunction (bound 0) (less 1 2)) set_one set_two) set_two)
    ∷ (ascii "{OPTIONAL{{1 2 3 FILTER(BOUND(?0))}}}" means left_join always nothing (filter (bound 0) set_one))
    ∷ (ascii "{OPTIONAL{1 2 3 ENSURE TRUST (5, -5)}}" means left_join always nothing (ensure_trust 1005 995 set_one))
    -- projections, then bounds, then filters, each in text order
    ∷ (ascii "{FILTER(?0=7)ENSURE TRUST(-1000,1000)TRUST AS?3 1 2 3 ENSURE TRUST(1,2)TRUST AS?4 FILTER(?0=8)}"
    means filter (conjunction (is_term 0 7) (is_term 0 8))
    (ensure_trust 1001 1002 (ensure_trust 0 2000 (project_trust 4 (project_trust 3 set_one)))))
    -- ! before &&, && before ||, both from the left
    ∷ (ascii "{FILTER(!BOUND(?0)&&BOUND(?1)&&BOUND(?2))}"
    means filter (conjunction (conjunction (negation (bound 0)) (bound 1)) (bound 2)) nothing)
    ∷ (ascii "{FILTER(?0=7||?1=?2&&?3<?4||!!(?5<?6))}"
    means filter (disjunction (disjunction (is_term 0 7) (conjunction (same 1 2) (less 3 4))) (negation (negation (less 5 6)))) nothing)
    ∷ (ascii "{FILTER((BOUND(?0)||BOUND(?1))&&(BOUND(?2)))}" means filter (conjunction (disjunction (bound 0) (bound 1)) (bound 2)) nothing)
    ∷ []

places : List Case
places =
    -- a text that is only a start: its length
    (ascii "" stops_at 0)
    ∷ (ascii "{" stops_at 1)
    ∷ (ascii "{{} UNIO" stops_at 8)
    -- dots
    ∷ (ascii "{.}" stops_at 1)
    ∷ (ascii "{1 2 3..}" stops_at 7)
    ∷ (ascii "{1 2 3 4" stops_at 7)
    -- numbers
    ∷ (ascii "{0 " stops_at 1)
    ∷ (ascii "{01" stops_at 1)
    ∷ (ascii "{1048576 " stops_at 7)
    ∷ (ascii "{?16}" stops_at 3)
    ∷ (ascii "{?01}" stops_at 3)
    ∷ (ascii "{ENSURE TRUST(-0" stops_at 15)
    ∷ (ascii "{ENSURE TRUST(1001" stops_at 17)
    ∷ (ascii "{ENSURE TRUST(+1" stops_at 14)
    ∷ (ascii "{ENSURE TRUST(- 1" stops_at 15)
    -- white space: spaces and line feeds only, and where it must stand
    ∷ (ascii "{1\t2" stops_at 2)
    ∷ (ascii "{1 2 3OPTIONAL{}}" stops_at 6)
    ∷ (ascii "{1 2 ?0FILTER(?0=?1)}" stops_at 7)
    ∷ (ascii "{TRUSTAS ?0}" stops_at 6)
    ∷ (ascii "{ENSURETRUST(" stops_at 7)
    -- keywords
    ∷ (ascii "{OPTION {" stops_at 7)
    ∷ (ascii "{optional{}}" stops_at 1)
    ∷ (ascii "{TRUST AS 3" stops_at 10)
    -- UNION between groups only
    ∷ (ascii "{}UNION" stops_at 2)
    ∷ (ascii "{OPTIONAL{}UNION{}}" stops_at 11)
    -- conditions
    ∷ (ascii "{FILTER BOUND(?0)}" stops_at 8)
    ∷ (ascii "{FILTER(!?0=?1)}" stops_at 9)
    ∷ (ascii "{FILTER(1=?0)}" stops_at 8)
    ∷ (ascii "{FILTER(?0<1)}" stops_at 11)
    ∷ (ascii "{FILTER(?0=?1&?2)}" stops_at 14)
    -- nothing behind the group
    ∷ (ascii "{} x" stops_at 3)
    ∷ []

-- 1 2 3 as bytes
answered_one : List ℕ
answered_one = 1 ∷ 0 ∷ 0 ∷ 1 ∷ 0 ∷ 0 ∷ 2 ∷ 0 ∷ 0 ∷ 3 ∷ []

call_cases : List Case
call_cases =
    (ascii "{1 2 3}" into 11 answers record { refusal = refuse 0 0; size = 10; output = answered_one ++ (7 ∷ []) })
    ∷ (ascii "{1 2 3}" into 10 answers record { refusal = refuse 0 0; size = 10; output = answered_one })
    ∷ (ascii "{1 2 3}" into 9 answers wrote_nothing (refuse 12 10) (replicate 9 7))
    ∷ (ascii "{1 2 }" into 9 answers wrote_nothing (refuse 11 5) (replicate 9 7))
    -- 4,096 bytes are read, 4,097 are not
    ∷ (replicate 4096 32 into 2 answers wrote_nothing (refuse 11 4096) (7 ∷ 7 ∷ []))
    ∷ (ascii "{." ++ replicate 4094 32 into 2 answers wrote_nothing (refuse 11 1) (7 ∷ 7 ∷ []))
    ∷ (ascii "{." ++ replicate 4095 32 into 2 answers wrote_nothing (refuse 11 4096) (7 ∷ 7 ∷ []))
    ∷ []

pub cases : List Case
cases = meanings ++ (places ++ call_cases)

opened : Unit {0}
unfolding ascii pattern_bytes condition_bytes node_bytes gathered projected bounded filters conjoined onto run read
opened = tt

calls : Unit {0}
unfolding semantics node_of text_node text_bytes text_refusal read_text
calls = tt

entries : Unit {0}
unfolding triple one two nothing set_one set_two ones said computed expected meanings places answered_one call_cases cases
entries = tt

-- every entry is as it should be
pub cases-hold : map computed cases ≡ map expected cases
unfolding opened calls entries
cases-hold = refl
