-- What the check of a query gives: its node, which is well-formed and as long as the query, with no clash of variables; and that the
-- written push of such a query passes the check of an evaluation. Groups: clashes; a checked query; the refusals; queries that pass;
-- the rewriting.
-- Assumes nothing.
use mathlib.Core.Path.{◌≡◌, refl, sym, ap, ◌∙◌}
use mathlib.Core.Bool.{Bool, true, false}
use mathlib.Core.List.{List, [], ◌∷◌, map}
use Prim.Native.Nat.{ℕ, ◌+◌, ◌*◌, ◌≤◌, ◌<◌}
use native.Mathlib.Omega.{arith}
use borrow.Author.Tests.{ltb-false, le-ltb}
use lib.Dec.{ltb}
use lib.ListN.{length}
use Rattle.tsparql.specs.Lists.{Every, keep_if}
use Rattle.tsparql.specs.Query.{Node, pattern_set, join, left_join, union, filter, project_trust, ensure_trust}
use Rattle.tsparql.specs.Push.{TrustBound, no_bound, push}
use Rattle.tsparql.specs.Writing.{node_bytes, condition_size, node_size}
use Rattle.tsparql.specs.Reading.{Read, got, fault, read_query, found_node, query_node}
use Rattle.tsparql.specs.Check.{Refusal, refuse, no_refusal, refuse_if, Passes, or_else}
use Rattle.tsparql.specs.Check.{TrustProjection, projected_variable, trust_projections}
use Rattle.tsparql.specs.Check.{pattern_variables, clashing, clashes, first_clash, variables_refusal, node_refusal}
use Rattle.tsparql.specs.Check.{table_refusal, query_refusal, evaluate_limit, check}
use Rattle.tsparql.specs.Rewrite.{rewrite_limit, rewriting}
use Rattle.tsparql.proofs.ListLaws.{every_append, every-keep_if, keep_if-map}
use Rattle.tsparql.proofs.RefusalLaws.{or_else-second, or_else-passes, refuse_if-passes}
use Rattle.tsparql.proofs.QuerySize.{node_size-positive, node_size-join, node_size-left_join}
use Rattle.tsparql.proofs.QuerySize.{node_size-union, node_size-filter, node_size-project_trust, node_size-ensure_trust}
use Rattle.tsparql.specs.WellFormed.{Bytes, NodeFormed}
use Rattle.tsparql.proofs.ReadWritten.{read_query-written}
use Rattle.tsparql.proofs.WrittenRead.{ReadsQuery, read_query-sound}
use Rattle.tsparql.proofs.PushQuery.{push-size-≤, pattern_variables-push, project_variables, trust_projections-variables}
use Rattle.tsparql.proofs.PushQuery.{project_variables-push, push-formed, push-push}

-- ---- clashes: refusal 7 goes by the variables alone, and push keeps them

clashes-variables : (q : Node)
    → map projected_variable (keep_if (clashes q) (trust_projections 0 q))
    ≡ keep_if (clashing (pattern_variables q) (project_variables q)) (project_variables q)
clashes-variables q =
    sym (keep_if-map (clashing (pattern_variables q) (map projected_variable (trust_projections 0 q))) projected_variable (trust_projections 0 q))
    ∙ rw (trust_projections-variables 0 q)

map-nil : {A B : Type 0} (f : A → B) (xs : List A) → map f xs ≡ [] → xs ≡ []
map-nil f [] e = refl
map-nil f (x ∷ xs) e = cc

first_clash-passes : (ps : List TrustProjection) → Passes (first_clash ps) → ps ≡ []
first_clash-passes [] e = refl
first_clash-passes (p ∷ ps) e = absurd (let z : ◌≡◌ {A = ℕ} 7 0 = e in omega arith)

pub variables_refusal-none : (q : Node) → Passes (variables_refusal q) → variables_refusal q ≡ no_refusal
unfolding variables_refusal
variables_refusal-none q z = ap first_clash (first_clash-passes (keep_if (clashes q) (trust_projections 0 q)) z)

pub variables_refusal-push : (b : TrustBound) (q : Node) → Passes (variables_refusal q) → variables_refusal (push b q) ≡ no_refusal
unfolding variables_refusal
variables_refusal-push b q z =
    let none = first_clash-passes (keep_if (clashes q) (trust_projections 0 q)) z in
    ap first_clash
    (map-nil projected_variable (keep_if (clashes (push b q)) (trust_projections 0 (push b q)))
    (clashes-variables (push b q)
    ∙ rw (pattern_variables-push b q, project_variables-push b q) (sym (clashes-variables q) ∙ ap (map projected_variable) none)))

-- ---- a checked query

-- a query with no refusal 5 to 7 under a limit
pub record QueryChecked (limit : ℕ) (s : List ℕ) : Type 0 where
  pub short : length s ≤ limit
  pub read : read_query s ≡ got (query_node s) (length s)
  pub formed : NodeFormed (query_node s)
  pub size : node_size (query_node s) ≡ length s
  pub bytes : Bytes s → s ≡ node_bytes (query_node s)
  pub clear : Passes (variables_refusal (query_node s))

found-checked : (limit : ℕ) (s : List ℕ) (r : Read Node) → read_query s ≡ r → ReadsQuery s r → length s ≤ limit → Passes (node_refusal r)
    → QueryChecked limit s
unfolding query_node
found-checked limit s (got q n) e a l z =
    let node : query_node s ≡ q = ap found_node e in
    record {
      short = l;
      read = e ∙ rw (node, a.next);
      formed = rw node a.formed;
      size = rw node a.size;
      bytes = λ h. rw node (a.bytes h);
      clear = rw node z;
    }
found-checked limit s (fault p) e a l z = absurd (let y : ◌≡◌ {A = ℕ} 6 0 = z in omega arith)

pub query-checked : (limit : ℕ) (s : List ℕ) → Passes (query_refusal limit s) → QueryChecked limit s
unfolding query_refusal
query-checked limit s z =
    let h = or_else-passes (refuse_if (ltb limit (length s)) 5 0) (node_refusal (read_query s)) z in
    found-checked limit s (read_query s) refl (read_query-sound s)
    (ltb-false limit (length s) (refuse_if-passes (ltb limit (length s)) 5 0 (omega arith) h.0)) h.1

-- a table and a query that pass the check pass each by itself
pub check-parts : (t s : List ℕ) → Passes (check t s) → Passes (table_refusal t) × Passes (query_refusal evaluate_limit s)
unfolding check
check-parts t s z = or_else-passes (table_refusal t) (query_refusal evaluate_limit s) z

-- beside two tables that pass by themselves a query is checked alike
pub check-alike : (t u s : List ℕ) → Passes (table_refusal t) → Passes (table_refusal u) → check t s ≡ check u s
unfolding check
check-alike t u s h k =
    let r = query_refusal evaluate_limit s in or_else-second (table_refusal t) r h ∙ sym (or_else-second (table_refusal u) r k)

-- ---- the refusals of a query: 5 at 0, 6 at a place of the query or at its end, 7 at a node of the query

-- the project trust nodes of a node stand before its end
trust_projections-inside : (at end : ℕ) (q : Node) → at + node_size q ≤ end → Every (λ p. p.place < end) (trust_projections at q)
unfolding trust_projections
trust_projections-inside at end (pattern_set ps) h = tt
trust_projections-inside at end (join x y) h =
    every_append _ (trust_projections (at + 1) x) (trust_projections (at + 1 + node_size x) y)
    (trust_projections-inside (at + 1) end x (omega (arith, node_size-join x y)))
    (trust_projections-inside (at + 1 + node_size x) end y (omega (arith, node_size-join x y)))
trust_projections-inside at end (left_join c x y) h =
    let first = at + 1 + condition_size c in
    every_append _ (trust_projections first x) (trust_projections (first + node_size x) y)
    (trust_projections-inside first end x (omega (arith, node_size-left_join c x y)))
    (trust_projections-inside (first + node_size x) end y (omega (arith, node_size-left_join c x y)))
trust_projections-inside at end (union x y) h =
    every_append _ (trust_projections (at + 1) x) (trust_projections (at + 1 + node_size x) y)
    (trust_projections-inside (at + 1) end x (omega (arith, node_size-union x y)))
    (trust_projections-inside (at + 1 + node_size x) end y (omega (arith, node_size-union x y)))
trust_projections-inside at end (filter c x) h =
    trust_projections-inside (at + 1 + condition_size c) end x (omega (arith, node_size-filter c x))
trust_projections-inside at end (project_trust v x) h = (
  omega (arith, node_size-project_trust v x, node_size-positive x),
  trust_projections-inside (at + 1) end x (omega (arith, node_size-project_trust v x)),
)
trust_projections-inside at end (ensure_trust l u x) h = trust_projections-inside (at + 4) end x (omega (arith, node_size-ensure_trust l u x))

first_clash-cases : (P : Refusal → Type 0) (n : ℕ) (ps : List TrustProjection) → Every (λ p. p.place < n) ps → P no_refusal
    → ((p : ℕ) → p < n → P (refuse 7 p)) → P (first_clash ps)
first_clash-cases P n [] e z h = z
first_clash-cases P n (p ∷ ps) e z h = h p.place e.0

variables_refusal-cases : (P : Refusal → Type 0) (q : Node) → P no_refusal → ((p : ℕ) → p < node_size q → P (refuse 7 p))
    → P (variables_refusal q)
unfolding variables_refusal
variables_refusal-cases P q z h =
    first_clash-cases P (node_size q) (keep_if (clashes q) (trust_projections 0 q))
    (every-keep_if _ (clashes q) (trust_projections 0 q) (trust_projections-inside 0 (node_size q) q (omega arith))) z h

node_refusal-cases : (P : Refusal → Type 0) (s : List ℕ) (r : Read Node) → ReadsQuery s r → P no_refusal
    → ((p : ℕ) → p ≤ length s → P (refuse 6 p)) → ((p : ℕ) → p < length s → P (refuse 7 p)) → P (node_refusal r)
node_refusal-cases P s (got q n) a z six seven = variables_refusal-cases P q z (λ p l. seven p (rw a.size at l))
node_refusal-cases P s (fault p) a z six seven = six p a

-- what holds of no refusal and of each of these holds of the refusal of a query
pub query_refusal-cases : (P : Refusal → Type 0) (limit : ℕ) (s : List ℕ) → P no_refusal → P (refuse 5 0)
    → (length s ≤ limit → (p : ℕ) → p ≤ length s → P (refuse 6 p)) → (length s ≤ limit → (p : ℕ) → p < length s → P (refuse 7 p))
    → P (query_refusal limit s)
unfolding query_refusal
query_refusal-cases P limit s z five six seven = go (ltb limit (length s)) refl
  where
    go : (b : Bool) → ltb limit (length s) ≡ b → P (or_else (refuse_if b 5 0) (node_refusal (read_query s)))
    go true e = five
    go false e =
        let l = ltb-false limit (length s) e in
        node_refusal-cases P s (read_query s) (read_query-sound s) z (six l) (seven l)

-- ---- queries that pass

-- a node's bytes, not over the limit, without a clash
pub written-passes : (limit : ℕ) (q : Node) → node_size q ≤ limit → NodeFormed q → variables_refusal q ≡ no_refusal
    → query_refusal limit (node_bytes q) ≡ no_refusal
unfolding query_refusal
written-passes limit q l f c = rw (le-ltb limit (node_size q) l, read_query-written q f) c

pub query_node-written : (q : Node) → NodeFormed q → query_node (node_bytes q) ≡ q
unfolding query_node
query_node-written q f = ap found_node (read_query-written q f)

-- what passes under a limit passes under a greater one
pub query_refusal-weaken : (limit more : ℕ) (s : List ℕ) → limit ≤ more → Passes (query_refusal limit s) → query_refusal more s ≡ no_refusal
unfolding query_refusal
query_refusal-weaken limit more s l z =
    let c = query-checked limit s z in
    rw (le-ltb more (length s) (omega (arith, c.short)), c.read) (variables_refusal-none (query_node s) c.clear)

-- ---- the rewriting of a query that passes under rewriting's limit

module _ (s : List ℕ) (z : Passes (query_refusal rewrite_limit s)) where
  rewriting-formed : NodeFormed (push no_bound (query_node s))
  rewriting-formed = push-formed no_bound (query_node s) tt (query-checked rewrite_limit s z).formed

  -- at most 5 times as long as the query
  pub rewriting-size-≤ : length (rewriting s) ≤ 5 * length s
  unfolding rewriting
  rewriting-size-≤ = omega (arith, push-size-≤ no_bound (query_node s), (query-checked rewrite_limit s z).size)

  -- read back, it is the pushed tree
  pub read_query-rewriting : read_query (rewriting s) ≡ got (push no_bound (query_node s)) (length (rewriting s))
  unfolding rewriting
  read_query-rewriting = read_query-written (push no_bound (query_node s)) rewriting-formed

  pub query_node-rewriting : query_node (rewriting s) ≡ push no_bound (query_node s)
  unfolding rewriting
  query_node-rewriting = query_node-written (push no_bound (query_node s)) rewriting-formed

  -- neither the query nor its rewriting is refused with 5, 6 or 7 by an evaluation
  pub query-passes : query_refusal evaluate_limit s ≡ no_refusal
  query-passes = query_refusal-weaken rewrite_limit evaluate_limit s (omega arith) z

  pub rewriting-passes : query_refusal evaluate_limit (rewriting s) ≡ no_refusal
  unfolding rewriting
  rewriting-passes =
      let c = query-checked rewrite_limit s z in
      written-passes evaluate_limit (push no_bound (query_node s))
      (omega (arith, push-size-≤ no_bound (query_node s), c.size, c.short)) rewriting-formed
      (variables_refusal-push no_bound (query_node s) c.clear)

  -- where the rewriting is short enough for rewriting itself, it passes there too
  pub rewriting-passes-again : length (rewriting s) ≤ rewrite_limit → query_refusal rewrite_limit (rewriting s) ≡ no_refusal
  unfolding rewriting
  rewriting-passes-again short =
      written-passes rewrite_limit (push no_bound (query_node s)) short rewriting-formed
      (variables_refusal-push no_bound (query_node s) (query-checked rewrite_limit s z).clear)

  -- a second rewriting changes no byte
  pub rewriting-rewriting : rewriting (rewriting s) ≡ rewriting s
  unfolding rewriting
  rewriting-rewriting = ap node_bytes (ap (push no_bound) query_node-rewriting ∙ push-push (query_node s))
