-- The call that reads a typed query (request 6): refusals 11 and 12 with their places, and every byte of the output at the end. What it
-- says in the grammar's words alone is in Promise. Assumes nothing.
use Rattle.std.specs.Prelude.{cond, List, [], ℕ, ltb, length}
use Rattle.std.proofs.Math.Option.{Option, none, some}
use Rattle.tsparql.specs.Query.{Node, pattern_set}
use Rattle.tsparql.specs.Writing.{node_bytes}
use Rattle.tsparql.specs.Check.{Refusal, refuse, no_refusal, refuse_if, passes, or_else}
use Rattle.tsparql.specs.Rewrite.{Rewritten, wrote_into, wrote_nothing}
use Rattle.grammar.specs.Promise.{text_limit}
use Rattle.grammar.specs.Automaton.{Outcome, accepted, fault, read}
use Rattle.grammar.specs.TokenMeaning.{text_node}

-- the node where there is one, else the empty set
abbrev pub node_or : Option Node → Node
node_or none = pattern_set []
node_or (some q) = q

-- the query bytes of a text that has a derivation; of any other, which is never written, those of the empty set
unfoldable pub text_bytes : List ℕ → List ℕ
text_bytes s = node_bytes (node_or (text_node s))

-- 11 at the fault
abbrev pub fault_refusal : Outcome → Refusal
fault_refusal (accepted ts) = no_refusal
fault_refusal (fault p) = refuse 11 p

-- 11, a text over the limit, then one without a derivation; then 12 where an output of so many bytes is too short
unfoldable pub text_refusal : List ℕ → ℕ → Refusal
text_refusal s bytes =
    or_else (refuse_if (ltb text_limit (length s)) 11 text_limit)
    (or_else (fault_refusal (read s)) (refuse_if (ltb bytes (length (text_bytes s))) 12 (length (text_bytes s))))

-- the call
unfoldable pub read_text : List ℕ → List ℕ → Rewritten
read_text s out = let r = text_refusal s (length out) in cond (passes r) (wrote_into (text_bytes s) out) (wrote_nothing r out)
