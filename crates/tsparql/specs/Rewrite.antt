-- Rewriting (document 01, "Rewrite"): the bytes of the push, the refusals, and every byte of the output at the end.
-- Assumes nothing.
use Rattle.std.specs.Prelude.{cond, List, ◌++◌, ℕ, ltb, length, take, drop}
use Rattle.tsparql.specs.Push.{no_bound, push}
use Rattle.tsparql.specs.Writing.{node_bytes}
use Rattle.tsparql.specs.Reading.{query_node}
use Rattle.tsparql.specs.Check.{Refusal, no_refusal, refuse_if, passes, Passes, or_else, query_refusal}

-- the limit of rewriting
abbrev pub rewrite_limit : ℕ
rewrite_limit = 1024

-- the bytes of the query pushed from the root, where the bound is none
unfoldable pub rewriting : List ℕ → List ℕ
rewriting s = node_bytes (push no_bound (query_node s))

-- the answer: the result's length; and what the output holds at the end
pub record Rewritten : Type 0 where
  pub refusal : Refusal
  pub size : ℕ
  pub output : List ℕ

-- 5 to 7, then 9 where an output of so many bytes is too short
unfoldable pub rewrite_refusal : List ℕ → ℕ → Refusal
rewrite_refusal s bytes =
    or_else (query_refusal rewrite_limit s) (refuse_if (ltb bytes (length (rewriting s))) 9 (length (rewriting s)))

-- the result at the front of the output, and the rest unchanged
abbrev pub wrote_into : List ℕ → List ℕ → Rewritten
wrote_into w out = record { refusal = no_refusal; size = length w; output = w ++ drop (length w) out }

-- on a refusal all of the output is unchanged
abbrev pub wrote_nothing : Refusal → List ℕ → Rewritten
wrote_nothing r out = record { refusal = r; size = 0; output = out }

-- the call
unfoldable pub rewrite : List ℕ → List ℕ → Rewritten
rewrite s out = let r = rewrite_refusal s (length out) in cond (passes r) (wrote_into (rewriting s) out) (wrote_nothing r out)

-- accepted, in document 01's sense: the rewriting into this output does not refuse the query
abbrev pub Accepted : List ℕ → List ℕ → Type 0
Accepted s out = Passes (rewrite s out).refusal

-- what is written: the output up to the answered length
abbrev pub written : List ℕ → List ℕ → List ℕ
written s out = take (rewrite s out).size (rewrite s out).output
