-- The check of a query by its parts: too long, a fault, surplus bytes, a clash, or sound. Assumes nothing.
use Rattle.std.proofs.Common.{◌≡◌, List, ℕ, ◌≤◌, ◌<◌, length, false, Ok, Err, refl, sym, ◌∙◌, zero-add}
use borrow.Author.Tests.{lt-ltb, le-ltb, eq-eqb, ne_eqb}
use Rattle.tsparql.specs.Reading.{got, fault, read_node, read_query, query_node}
use Rattle.tsparql.specs.Check.{refuse, no_refusal, passes, variables_refusal, query_refusal}
use Rattle.heads.specs.declared.Head.{Head}
use Rattle.query.specs.Answers.{node_head}
use Rattle.query.specs.Parts.{map_read}
use Rattle.query.specs.Found.{QuerySound}
use Rattle.query.proofs.ReadLaws.{made_fault, made_got}
use Rattle.refusals.specs.declared.Refused.{Refused}
use Rattle.refusals.specs.declared.Refused.TheVariants as R
use Rattle.refusals.specs.Refusals.{refusal_of}
use Rattle.scope.specs.Variables.{Checked}

module _ (limit : ℕ) (s : List ℕ) where
  -- a refusal, by its number
  refused-checked : (r : Refused) → passes (refusal_of r) ≡ false → query_refusal limit s ≡ refusal_of r → Checked limit s (Err r)
  refused-checked r n e = record { sound = rw (e, n); refusal = sym e }

  pub long-checked : limit < length s → Checked limit s (Err R.QueryTooLong)
  unfolding query_refusal
  long-checked l = refused-checked R.QueryTooLong refl (rw (lt-ltb limit (length s) l))

  pub fault-checked : {p : ℕ} → length s ≤ limit → fault p ≡ map_read node_head (read_node s) → Checked limit s (Err (R.QueryFault p))
  unfolding query_refusal read_query
  fault-checked {p} l e =
      let bad = made_fault node_head (read_node s) p (sym e) in
      refused-checked (R.QueryFault p) refl (rw (le-ltb limit (length s) l, bad, zero-add p))

-- a node was read
module _ {h : Head} {n : ℕ} (s : List ℕ) (e : got h n ≡ map_read node_head (read_node s)) where
  pub surplus-checked : (limit : ℕ) → length s ≤ limit → (n ≡ length s → ⊥) → Checked limit s (Err (R.QueryFault n))
  unfolding query_refusal read_query
  surplus-checked limit l d =
      let node = made_got node_head (read_node s) h n (sym e) in
      refused-checked limit s (R.QueryFault n) refl (rw (le-ltb limit (length s) l, node.1, zero-add n, ne_eqb n (length s) d))

  -- up to the end it is a query
  pub whole-sound : n ≡ length s → QuerySound s
  unfolding read_query
  whole-sound d = rw ((made_got node_head (read_node s) h n (sym e)).1, zero-add n, eq-eqb n (length s) d) tt

  module _ (limit : ℕ) (l : length s ≤ limit) (d : n ≡ length s) where
    whole-refusal : query_refusal limit s ≡ variables_refusal (query_node s)
    unfolding query_refusal read_query query_node
    whole-refusal =
        let node = made_got node_head (read_node s) h n (sym e) in
        rw (le-ltb limit (length s) l, node.1, zero-add n, eq-eqb n (length s) d)

    pub clash-checked : {p : ℕ} → refuse 7 p ≡ variables_refusal (query_node s) → Checked limit s (Err (R.VariableClash p))
    clash-checked {p} c = refused-checked limit s (R.VariableClash p) refl (whole-refusal ∙ sym c)

    pub passed-checked : no_refusal ≡ variables_refusal (query_node s) → Checked limit s (Ok tt)
    passed-checked c = let none = whole-refusal ∙ sym c in record { sound = rw none; refusal = sym none }
