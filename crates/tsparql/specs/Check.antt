-- The check of a table and a query (document 01, "Check"): refusals 1 to 7 and their places, in its order.
-- Where the first fault of a query is, refusal 6, is said by the readers (Reading). Assumes nothing.
use Rattle.std.specs.Prelude.{◌≡◌, Bool, true, ◌||◌, not, cond, List, [], ◌∷◌, ◌++◌, map, ℕ, zero, suc, ◌+◌, ◌/◌, ◌%◌, eqb, ltb, length}
use Rattle.tsparql.specs.Lists.{keep_if, concat_map}
use Rattle.tsparql.specs.Query.{Slot, a_term, a_variable, Pattern}
use Rattle.tsparql.specs.Query.{Node, pattern_set, join, left_join, union, filter, project_trust, ensure_trust}
use Rattle.tsparql.specs.Table.{record_length, record_at, fact_of, record_sound, below}
use Rattle.tsparql.specs.Writing.{condition_bytes, node_bytes}
use Rattle.tsparql.specs.Reading.{Read, got, fault, read_query}

-- ---- refusals

-- a refusal's number and place; 0 and 0 where none applies
pub record Refusal : Type 0 where
  pub number : ℕ
  pub place : ℕ

abbrev pub refuse : ℕ → ℕ → Refusal
refuse n p = record { number = n; place = p }

abbrev pub no_refusal : Refusal
no_refusal = refuse 0 0

-- this refusal where the test passes, else none
abbrev pub refuse_if : Bool → ℕ → ℕ → Refusal
refuse_if b n p = cond b (refuse n p) no_refusal

-- no refusal applies
abbrev pub passes : Refusal → Bool
passes r = eqb r.number 0

-- the same as a statement
abbrev pub Passes : Refusal → Type 0
Passes r = r.number ≡ 0

-- the first of two that applies
abbrev pub or_else : Refusal → Refusal → Refusal
or_else r s = cond (passes r) s r

-- ---- the table: 1 to 4

-- the most records of a table
abbrev pub record_limit : ℕ
record_limit = 65535

-- record i is above the record before it, if there is one
abbrev pub rises : List ℕ → ℕ → Bool
rises t zero = true
rises t (suc i) = below (fact_of (record_at t i)) (fact_of (record_at t (suc i)))

-- 3, an unsound record; 4, one that is not above the record before it
unfoldable pub record_refusal : List ℕ → ℕ → Refusal
record_refusal t i = or_else (refuse_if (not (record_sound (record_at t i))) 3 i) (refuse_if (not (rises t i)) 4 i)

-- the first refusal of n records from record i on
unfoldable pub records_refusal : List ℕ → ℕ → ℕ → Refusal
records_refusal t i zero = no_refusal
records_refusal t i (suc n) = let later = records_refusal t (suc i) n in or_else (record_refusal t i) later

-- 1, then 2, then 3 and 4 record by record
unfoldable pub table_refusal : List ℕ → Refusal
table_refusal t =
    let records = length t / record_length in
    or_else (refuse_if (not (eqb (length t % record_length) 0)) 1 0)
    (or_else (refuse_if (ltb record_limit records) 2 0) (records_refusal t 0 records))

-- ---- the variables of a query: 7

-- a project trust node of a query: its place, and its variable
pub record TrustProjection : Type 0 where
  pub place : ℕ
  pub variable : ℕ

abbrev pub projected_variable : TrustProjection → ℕ
projected_variable p = p.variable

-- the project trust nodes in prefix order, for a node that starts at a place
unfoldable pub trust_projections : ℕ → Node → List TrustProjection
trust_projections at (pattern_set ps) = []
trust_projections at (join x y) = trust_projections (at + 1) x ++ trust_projections (at + 1 + length (node_bytes x)) y
trust_projections at (left_join c x y) =
    trust_projections (at + 1 + length (condition_bytes c)) x
    ++ trust_projections (at + 1 + length (condition_bytes c) + length (node_bytes x)) y
trust_projections at (union x y) = trust_projections (at + 1) x ++ trust_projections (at + 1 + length (node_bytes x)) y
trust_projections at (filter c x) = trust_projections (at + 1 + length (condition_bytes c)) x
trust_projections at (project_trust v x) = record { place = at; variable = v } ∷ trust_projections (at + 1) x
trust_projections at (ensure_trust l u x) = trust_projections (at + 4) x

abbrev pub slot_variables : Slot → List ℕ
slot_variables (a_term a) = []
slot_variables (a_variable v) = v ∷ []

abbrev pub variables_of : Pattern → List ℕ
variables_of p = slot_variables p.subject ++ (slot_variables p.predicate ++ slot_variables p.object)

-- the variables that stand in patterns, each as often as it does
unfoldable pub pattern_variables : Node → List ℕ
pattern_variables (pattern_set ps) = concat_map variables_of ps
pattern_variables (join x y) = pattern_variables x ++ pattern_variables y
pattern_variables (left_join c x y) = pattern_variables x ++ pattern_variables y
pattern_variables (union x y) = pattern_variables x ++ pattern_variables y
pattern_variables (filter c x) = pattern_variables x
pattern_variables (project_trust v x) = pattern_variables x
pattern_variables (ensure_trust l u x) = pattern_variables x

-- how often a number stands in a list
abbrev pub occurrences : ℕ → List ℕ → ℕ
occurrences v vs = length (keep_if (eqb v) vs)

-- a variable of the second list, project trust's, stands in the first, the patterns', or twice in the second
abbrev pub clashing : List ℕ → List ℕ → ℕ → Bool
clashing in_patterns in_projections v = ltb 0 (occurrences v in_patterns) || ltb 1 (occurrences v in_projections)

abbrev pub clashes : Node → TrustProjection → Bool
clashes q p = clashing (pattern_variables q) (map projected_variable (trust_projections 0 q)) p.variable

-- 7 at the first of the nodes
abbrev pub first_clash : List TrustProjection → Refusal
first_clash [] = no_refusal
first_clash (p ∷ ps) = refuse 7 p.place

-- 7 at the first clash
unfoldable pub variables_refusal : Node → Refusal
variables_refusal q = first_clash (keep_if (clashes q) (trust_projections 0 q))

-- ---- the query: 5 to 7

-- 6 at the fault, else 7
abbrev pub node_refusal : Read Node → Refusal
node_refusal (got q n) = variables_refusal q
node_refusal (fault p) = refuse 6 p

-- 5 where the query is over the limit of the calling operation
unfoldable pub query_refusal : ℕ → List ℕ → Refusal
query_refusal limit s = or_else (refuse_if (ltb limit (length s)) 5 0) (node_refusal (read_query s))

-- the limit of check, evaluate and ceiling
abbrev pub evaluate_limit : ℕ
evaluate_limit = 5120

-- ---- the call

-- check a table and a query; nothing is written
unfoldable pub check : List ℕ → List ℕ → Refusal
check t s = or_else (table_refusal t) (query_refusal evaluate_limit s)
