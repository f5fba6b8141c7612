-- The variables of a query by its parts, for refusal 7: which variable stands where, how a node itself uses a variable, which clashes;
-- and the answers of the check of a query. Assumes nothing.
use Rattle.std.specs.Prelude.{◌≡◌, Bool, false, cond, List, map, ℕ, eqb, ltb, drop, Option, None, Some, Result, is_ok}
use Rattle.tsparql.specs.Lists.{concat_map}
use Rattle.tsparql.specs.Query.{Node, pattern_set, project_trust}
use Rattle.tsparql.specs.Reading.{Read, got, fault, read_patterns, query_node}
use Rattle.tsparql.specs.Check.{Refusal, refuse, no_refusal, passes, query_refusal, variables_of, pattern_variables, occurrences, clashing}
use Rattle.tsparql.specs.Check.{projected_variable, trust_projections}
use Rattle.heads.specs.declared.Head.{Head}
use Rattle.heads.specs.declared.Head.TheVariants as H
use Rattle.heads.specs.Parts.{node_head_read}
use Rattle.query.specs.Found.{found_patterns}
use Rattle.refusals.specs.declared.Refused.{Refused}
use Rattle.refusals.specs.Refusals.{refusal_in}

-- ---- where a variable stands

-- the variable is in the list
abbrev pub has : ℕ → List ℕ → Bool
has v vs = ltb 0 (occurrences v vs)

-- the variables of n patterns from a place on
abbrev pub patterns_of : ℕ → ℕ → List ℕ → List ℕ
patterns_of n at s = concat_map variables_of (found_patterns (read_patterns n (drop at s)))

-- how a node itself uses a variable: 2 in a pattern, 1 to project its trust
abbrev pub own_uses : ℕ → Node → ℕ
own_uses v (pattern_set ps) = cond (has v (concat_map variables_of ps)) 2 0
own_uses v (project_trust w x) = cond (eqb w v) 1 0
own_uses v _ = 0

-- the variable of a project trust head
abbrev pub head_variable : Head → Option ℕ
head_variable (H.ProjectTrust v) = Some v
head_variable _ = None

-- the same where a head was found
abbrev pub found_variable : Read Head → Option ℕ
found_variable (got h own) = head_variable h
found_variable (fault p) = None

-- the variable that the node of a part projects its trust to
abbrev pub projected_in : List ℕ → Option ℕ
projected_in s = found_variable (node_head_read s)

-- ---- clashes

-- the variable clashes in the query
abbrev pub clashes_with : List ℕ → ℕ → Bool
clashes_with s v =
    clashing (pattern_variables (query_node s)) (map projected_variable (trust_projections 0 (query_node s))) v

-- it is a variable that clashes in the query
abbrev pub projected_clashes : List ℕ → Option ℕ → Bool
projected_clashes s None = false
projected_clashes s (Some v) = clashes_with s v

-- the node at a place projects its trust to a variable that clashes
abbrev pub clash_at : List ℕ → ℕ → Bool
clash_at s at = projected_clashes s (projected_in (drop at s))

-- 7 at the clash
abbrev pub clash_in : Option ℕ → Refusal
clash_in None = no_refusal
clash_in (Some p) = refuse 7 p

-- ---- the answer of the check

-- the answer names the query's refusal, and is Ok exactly where there is none
pub record Checked (limit : ℕ) (s : List ℕ) (r : Result (Unit {0}) Refused) : Type 0 where
  pub sound : is_ok r ≡ passes (query_refusal limit s)
  pub refusal : refusal_in r ≡ query_refusal limit s
