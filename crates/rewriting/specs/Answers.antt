-- What the answers of the rewriting mean, and what a push of a part needs and leaves. Assumes nothing.
use Rattle.std.specs.Prelude.{◌≡◌, List, ℕ, ◌≤◌, length, Result}
use Rattle.tsparql.specs.Push.{TrustBound, push, BoundFormed}
use Rattle.tsparql.specs.Writing.{node_bytes, node_size}
use Rattle.tsparql.specs.Reading.{Read, got}
use Rattle.tsparql.specs.Rewrite as Rewrite
use Rattle.tsparql.specs.Rewrite.{rewrite_limit, wrote_nothing}
use Rattle.query.specs.Found.{NodeSound, node_of}
use Rattle.encoding.specs.Writers.{Wrote}
use Rattle.refusals.specs.declared.Fault.{Fault}
use Rattle.refusals.specs.declared.Refused.{Refused}
use Rattle.refusals.specs.Reads.{found}
use Rattle.refusals.specs.Refusals.{written_in}

-- ---- the push of a part

-- the size of the push of the node that the part starts with, and the place behind the node
abbrev pub pushed : List ℕ → TrustBound → Read ℕ
pushed s b = got (node_size (push b (node_of s))) (node_size (node_of s))

-- a node that is pushed under the bound into so many bytes
pub record Pushable (s : List ℕ) (b : TrustBound) (room : ℕ) : Type 0 where
  pub sound : NodeSound s
  pub short : length s ≤ rewrite_limit
  pub formed : BoundFormed b
  pub fits : length (node_bytes (push b (node_of s))) ≤ room

-- its push at the front of the output, the rest unchanged
pub record Pushes (s : List ℕ) (b : TrustBound) (out out' : List ℕ) (r : Result (ℕ × ℕ) Fault) : Type 0 where
  pub is : found r ≡ pushed s b
  pub wrote : Wrote (node_bytes (push b (node_of s))) out out' (length (node_bytes (push b (node_of s))))

-- ---- the answer of the call

-- refusal, length and output at the end
abbrev pub rewritten_in : Result ℕ Refused → List ℕ → Rewrite.Rewritten
rewritten_in r out = written_in r out
