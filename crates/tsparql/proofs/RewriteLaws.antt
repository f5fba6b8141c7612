-- The call rewrite, case by case: what is written for an accepted query is the bytes of its push; the numbers of the answer fit their
-- types and the output keeps its length; what was rewritten is rewritten to itself (request 12). Assumes nothing.
use mathlib.Core.Path.{◌≡◌, refl, ap, ◌∙◌}
use mathlib.Core.Bool.{Bool, true, false, cond}
use mathlib.Core.List.{List}
use Prim.Native.Nat.{ℕ, ◌*◌, ◌≤◌, zero-le}
use native.Mathlib.Omega.{arith}
use borrow.Author.Tests.{ltb-false, eqb-true, eqb-false, eq-eqb, le-ltb}
use lib.Dec.{ltb}
use lib.ListN.{length, drop, length-append, length-drop}
use lib.Seq.{take-append_seam}
use Rattle.tsparql.specs.Check.{Passes, Refusal, no_refusal, refuse_if, passes, table_refusal, query_refusal, check, evaluate_limit}
use Rattle.tsparql.specs.Rewrite.{rewrite_limit, rewriting, Rewritten, rewrite_refusal, wrote_into, wrote_nothing}
use Rattle.tsparql.specs.Rewrite.{rewrite, Accepted, written}
use Rattle.tsparql.proofs.RefusalLaws.{or_else-second, or_else-cases, or_else-passes, refuse_if-passes, refuse_if-cases}
use Rattle.tsparql.proofs.QueryLaws.{query-checked, query_refusal-cases, rewriting-size-≤}
use Rattle.tsparql.proofs.QueryLaws.{query-passes, rewriting-passes, rewriting-passes-again, rewriting-rewriting}

module _ (s out : List ℕ) where
  -- what is shown of a result and of a refusal is shown of the call
  pub rewrite-cases : (P : Rewritten → Type 0)
      → (Passes (rewrite_refusal s (length out)) → P (wrote_into (rewriting s) out))
      → ((Passes (rewrite_refusal s (length out)) → ⊥) → P (wrote_nothing (rewrite_refusal s (length out)) out)) → P (rewrite s out)
  unfolding rewrite
  rewrite-cases P h k = go (passes (rewrite_refusal s (length out))) refl
    where
      go : (b : Bool) → passes (rewrite_refusal s (length out)) ≡ b
          → P (cond b (wrote_into (rewriting s) out) (wrote_nothing (rewrite_refusal s (length out)) out))
      go true e = h (eqb-true (rewrite_refusal s (length out)).number 0 e)
      go false e = k (eqb-false (rewrite_refusal s (length out)).number 0 e)

  -- where nothing is refused, the result
  pub rewrite-passes : Passes (rewrite_refusal s (length out)) → rewrite s out ≡ wrote_into (rewriting s) out
  unfolding rewrite
  rewrite-passes z = rw (eq-eqb (rewrite_refusal s (length out)).number 0 z)

  accepted-refusal : Accepted s out → Passes (rewrite_refusal s (length out))
  accepted-refusal =
      rewrite-cases (λ r. Passes r.refusal → Passes (rewrite_refusal s (length out))) (λ z _. z) (λ _ w. w)

  -- an accepted query: the result at the front of the output, and the rest as it was
  pub accepted-wrote : Accepted s out → rewrite s out ≡ wrote_into (rewriting s) out
  accepted-wrote a = rewrite-passes (accepted-refusal a)

  -- no refusal 5 to 7 under rewriting's limit
  pub accepted-passes : Accepted s out → Passes (query_refusal rewrite_limit s)
  unfolding rewrite_refusal
  accepted-passes a = (or_else-passes (query_refusal rewrite_limit s) _ (accepted-refusal a)).0

  -- what is written is the rewriting
  pub accepted-written : Accepted s out → written s out ≡ rewriting s
  accepted-written a =
      rw (accepted-wrote a) (take-append_seam (rewriting s) (drop (length (rewriting s)) out))

  -- it is at most 5 times as long as the query
  pub accepted-size : Accepted s out → length (written s out) ≤ 5 * length s
  accepted-size a = rw (accepted-written a) (rewriting-size-≤ s (accepted-passes a))

  -- beside every table the check answers for it what it answers for the query
  pub accepted-check : (t : List ℕ) → Accepted s out → check t (written s out) ≡ check t s
  unfolding check
  accepted-check t a =
      let z = accepted-passes a in
      rw (accepted-written a, rewriting-passes s z, query-passes s z)

  -- and refuses neither where the table passes
  pub accepted-sound : (t : List ℕ) → Accepted s out → Passes (table_refusal t) → check t (written s out) ≡ no_refusal
  unfolding check
  accepted-sound t a h =
      rw (accepted-written a, rewriting-passes s (accepted-passes a)) (or_else-second (table_refusal t) no_refusal h)

  -- a query that passes is accepted by every output of 5 times its length
  pub passes-accepted : Passes (query_refusal rewrite_limit s) → 5 * length s ≤ length out → Accepted s out
  unfolding rewrite_refusal
  passes-accepted z long =
      let fits = le-ltb (length out) (length (rewriting s)) (omega (arith, rewriting-size-≤ s z)) in
      ap (λ r. r.refusal.number) (rewrite-passes (rw (or_else-second (query_refusal rewrite_limit s) _ z, fits)))

-- ---- numbers and lengths

-- the number is at most 9, place and length at most evaluation's limit, and the output keeps its length
pub record RewriteFits (out : List ℕ) (r : Rewritten) : Type 0 where
  pub number_fits : r.refusal.number ≤ 9
  pub place-fits : r.refusal.place ≤ evaluate_limit
  pub size_fits : r.size ≤ evaluate_limit
  pub length-kept : length r.output ≡ length out

rewriting-fits : (s : List ℕ) → Passes (query_refusal rewrite_limit s) → length (rewriting s) ≤ evaluate_limit
rewriting-fits s z = omega (arith, rewriting-size-≤ s z, (query-checked rewrite_limit s z).short)

rewrite_refusal-place : (s : List ℕ) (bytes : ℕ) → (rewrite_refusal s bytes).place ≤ evaluate_limit
unfolding rewrite_refusal
rewrite_refusal-place s bytes = go (passes (query_refusal rewrite_limit s)) refl
  where
    short : Refusal
    short = refuse_if (ltb bytes (length (rewriting s))) 9 (length (rewriting s))

    go : (b : Bool) → passes (query_refusal rewrite_limit s) ≡ b → (cond b short (query_refusal rewrite_limit s)).place ≤ evaluate_limit
    go true e =
        refuse_if-cases (λ r. r.place ≤ evaluate_limit) (ltb bytes (length (rewriting s))) 9 (length (rewriting s))
        (λ _. rewriting-fits s (eqb-true (query_refusal rewrite_limit s).number 0 e)) zero-le
    go false e =
        query_refusal-cases (λ r. r.place ≤ evaluate_limit) rewrite_limit s zero-le zero-le
        (λ l p k. omega arith) (λ l p k. omega arith)

rewrite_refusal-number : (s : List ℕ) (bytes : ℕ) → (rewrite_refusal s bytes).number ≤ 9
unfolding rewrite_refusal
rewrite_refusal-number s bytes =
    let short = ltb bytes (length (rewriting s)) in
    or_else-cases (λ r. r.number ≤ 9) (query_refusal rewrite_limit s) (refuse_if short 9 (length (rewriting s)))
    (query_refusal-cases (λ r. r.number ≤ 9) rewrite_limit s zero-le (omega arith) (λ l p k. omega arith) (λ l p k. omega arith))
    (refuse_if-cases (λ r. r.number ≤ 9) short 9 (length (rewriting s)) (λ _. omega arith) zero-le)

-- the output was long enough
wrote-long : (s out : List ℕ) → Passes (rewrite_refusal s (length out)) → length (rewriting s) ≤ length out
unfolding rewrite_refusal
wrote-long s out z =
    let short = ltb (length out) (length (rewriting s)) in
    let h = or_else-passes (query_refusal rewrite_limit s) (refuse_if short 9 (length (rewriting s))) z in
    ltb-false (length out) (length (rewriting s)) (refuse_if-passes short 9 (length (rewriting s)) (omega arith) h.1)

pub rewrite-fits : (s out : List ℕ) → RewriteFits out (rewrite s out)
unfolding rewrite_refusal
rewrite-fits s out =
    rewrite-cases s out (RewriteFits out)
    (λ z. record {
      number_fits = zero-le;
      place-fits = zero-le;
      size_fits = rewriting-fits s (or_else-passes (query_refusal rewrite_limit s) _ z).0;
      length-kept =
          let size = length (rewriting s) in
          omega (arith, length-append (rewriting s) (drop size out), length-drop size out, wrote-long s out z);
    })
    (λ z. record {
      number_fits = rewrite_refusal-number s (length out);
      place-fits = rewrite_refusal-place s (length out);
      size_fits = zero-le;
      length-kept = refl;
    })

-- ---- again

again-passes : (s : List ℕ) (bytes : ℕ) → Passes (query_refusal rewrite_limit s) → length (rewriting s) ≤ rewrite_limit
    → length (rewriting s) ≤ bytes → Passes (rewrite_refusal (rewriting s) bytes)
unfolding rewrite_refusal
again-passes s bytes z short long =
    rw (rewriting-passes-again s z short, rewriting-rewriting s z, le-ltb bytes (length (rewriting s)) long)

-- what was written for a query, if it is short enough for rewriting and the output long enough, is rewritten to itself
pub rewrite-again : (s out out' : List ℕ) → Accepted s out → length (written s out) ≤ rewrite_limit → length (written s out) ≤ length out'
    → Accepted (written s out) out' × (written (written s out) out' ≡ written s out)
rewrite-again s out out' a short long =
    let z = accepted-passes s out a in
    let w = accepted-written s out a in
    let passed = rewrite-passes (rewriting s) out' (again-passes s (length out') z (rw w at short) (rw w at long)) in
    let again : Accepted (rewriting s) out' = ap (λ r. r.refusal.number) passed in
    rw w (again, accepted-written (rewriting s) out' again ∙ rewriting-rewriting s z)
