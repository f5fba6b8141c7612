-- The groups of SPARQL (2008), in W3C's rules (specs/Sparql.antt), and those of the grammar write the same texts: each has a tree of the
-- other with the same tokens, at every depth (`sparql-query`, `query-sparql`), so a text has a derivation by the one exactly if it has one
-- by the other (`sparql-derives`, `derives-sparql`). Assumes nothing.
use mathlib.Core.Path.{◌≡◌, refl, ap, ◌∙◌, subst⁻¹}
use mathlib.Core.Bool.{Bool, true, false}
use mathlib.Core.List.{List, [], ◌∷◌}
use mathlib.Core.Option.{Option, none, some}
use Prim.Native.Nat.{ℕ}
use Rattle.grammar.specs.Tokens.{Token, mark, LBRACE, DOT, OPTIONAL, UNION, Written}
use Rattle.grammar.specs.Grammar.{Slot, slot_token, Query, tokens, Derives}
use Rattle.grammar.specs.Grammar.{Body, end, triple, triple_dot, element, element_dot, Element, Unions}
use Rattle.grammar.specs.Grammar.{body_tokens, element_tokens, unions_tokens}
use Rattle.grammar.specs.Grammar as G
use Rattle.grammar.specs.Sparql.{TriplesBlock, only, dotted, more, Filter, filter, trust_as, ensure, GroupGraphPattern, group}
use Rattle.grammar.specs.Sparql.{Star, closing, next, Part, optional, group_or_union, a_filter, UnionStar, single, union}
use Rattle.grammar.specs.Sparql.{block_tokens, optional_block, optional_dot, filter_tokens, group_tokens, star_tokens, part_tokens}
use Rattle.grammar.specs.Sparql.{union_tokens, DerivesSparql}

-- ---- from W3C's rules to the grammar

-- a block before a bare body or, where it ends in a dot, before a body
block_body : TriplesBlock → Body false → Body true → Body true
block_body (only x y z) f t = triple x y z f
block_body (dotted x y z) f t = triple_dot x y z t
block_body (more x y z b) f t = triple_dot x y z (block_body b f t)

or_block : Option TriplesBlock → Body false → Body true → Body true
or_block none f t = t
or_block (some b) f t = block_body b f t

with_dot : {a : Bool} → Bool → Element → Body true → Body a
with_dot true e b = element_dot e b
with_dot false e b = element e b

filter_element : Filter → Element
filter_element (filter d) = G.filter d
filter_element (trust_as v) = G.trust_as v
filter_element (ensure l u) = G.ensure l u

mutual
  group_body : GroupGraphPattern → Body true
  group_body (group b s) = or_block b (star_body false s) (star_body true s)

  star_body : (a : Bool) → Star → Body a
  star_body a closing = end
  star_body a (next p d b s) = with_dot d (part_element p) (or_block b (star_body false s) (star_body true s))

  part_element : Part → Element
  part_element (optional g) = G.optional (group_body g)
  part_element (group_or_union g us) = G.groups (group_body g) (unions_of us)
  part_element (a_filter f) = filter_element f

  unions_of : UnionStar → Unions
  unions_of single = G.none
  unions_of (union g us) = G.and_union (group_body g) (unions_of us)

module _ (f : Body false) (t : Body true) (k l : List Token) (e : body_tokens f k ≡ l) (h : body_tokens t k ≡ l) where
  block_body-tokens : (b : TriplesBlock) → body_tokens (block_body b f t) k ≡ block_tokens b l
  unfolding block_body
  block_body-tokens (only x y z) = ap (λ (r : List Token). slot_token x ∷ slot_token y ∷ slot_token z ∷ r) e
  block_body-tokens (dotted x y z) = ap (λ (r : List Token). slot_token x ∷ slot_token y ∷ slot_token z ∷ mark DOT ∷ r) h
  block_body-tokens (more x y z b) =
      ap (λ (r : List Token). slot_token x ∷ slot_token y ∷ slot_token z ∷ mark DOT ∷ r) (block_body-tokens b)

  or_block-tokens : (b : Option TriplesBlock) → body_tokens (or_block b f t) k ≡ optional_block b l
  unfolding or_block
  or_block-tokens none = h
  or_block-tokens (some b) = block_body-tokens b

with_dot-tokens : (a d : Bool) (e : Element) (b : Body true) (k : List Token)
    → body_tokens (with_dot {a = a} d e b) k ≡ element_tokens e (optional_dot d (body_tokens b k))
unfolding with_dot
with_dot-tokens a true e b k = refl
with_dot-tokens a false e b k = refl

filter-tokens : (f : Filter) (k : List Token) → element_tokens (filter_element f) k ≡ filter_tokens f k
unfolding filter_element
filter-tokens (filter d) k = refl
filter-tokens (trust_as v) k = refl
filter-tokens (ensure l u) k = refl

mutual
  unfolding group_body

  group-tokens : (g : GroupGraphPattern) (k : List Token) → mark LBRACE ∷ body_tokens (group_body g) k ≡ group_tokens g k
  group-tokens (group b s) k =
      ap (λ (r : List Token). mark LBRACE ∷ r)
      (or_block-tokens (star_body false s) (star_body true s) k (star_tokens s k) (star-tokens false s k) (star-tokens true s k) b)

  star-tokens : (a : Bool) (s : Star) (k : List Token) → body_tokens (star_body a s) k ≡ star_tokens s k
  star-tokens a closing k = refl
  star-tokens a (next p d b s) k =
      with_dot-tokens a d (part_element p) (or_block b (star_body false s) (star_body true s)) k
      ∙ part-tokens p (optional_dot d (body_tokens (or_block b (star_body false s) (star_body true s)) k))
      ∙ ap (λ (r : List Token). part_tokens p (optional_dot d r))
      (or_block-tokens (star_body false s) (star_body true s) k (star_tokens s k) (star-tokens false s k) (star-tokens true s k) b)

  part-tokens : (p : Part) (k : List Token) → element_tokens (part_element p) k ≡ part_tokens p k
  part-tokens (optional g) k = ap (λ (r : List Token). mark OPTIONAL ∷ r) (group-tokens g k)
  part-tokens (group_or_union g us) k = group-tokens g (unions_tokens (unions_of us) k) ∙ ap (group_tokens g) (union-tokens us k)
  part-tokens (a_filter f) k = filter-tokens f k

  union-tokens : (us : UnionStar) (k : List Token) → unions_tokens (unions_of us) k ≡ union_tokens us k
  union-tokens single k = refl
  union-tokens (union g us) k =
      ap (λ (r : List Token). mark UNION ∷ r) (group-tokens g (unions_tokens (unions_of us) k) ∙ ap (group_tokens g) (union-tokens us k))

pub sparql-query : (g : GroupGraphPattern) → (q : Query) × (tokens q ≡ group_tokens g [])
sparql-query g = (group_body g, group-tokens g [])

pub sparql-derives : (g : GroupGraphPattern) (s : List ℕ) → DerivesSparql g s → (q : Query) × Derives q s
sparql-derives g s d = let r = sparql-query g in (r.0, subst⁻¹ (λ (ts : List Token). Written false ts s) r.1 d)

-- ---- and back

-- of a body: the block that may begin it, and the star; a bare body has no block
abbrev Parted : Bool → Type 0
Parted true = Option TriplesBlock × Star
Parted false = Star

abbrev parted_tokens : (a : Bool) → Parted a → List Token → List Token
parted_tokens true r k = optional_block r.0 (star_tokens r.1 k)
parted_tokens false s k = star_tokens s k

abbrev grouped : Parted true → GroupGraphPattern
grouped r = group r.0 r.1

bare : (a : Bool) → Star → Parted a
bare true s = (none, s)
bare false s = s

bare-tokens : (a : Bool) (s : Star) (k : List Token) → parted_tokens a (bare a s) k ≡ star_tokens s k
unfolding bare
bare-tokens true s k = refl
bare-tokens false s k = refl

longer : Slot → Slot → Slot → Option TriplesBlock → TriplesBlock
longer x y z none = dotted x y z
longer x y z (some b) = more x y z b

longer-tokens : (x y z : Slot) (b : Option TriplesBlock) (k : List Token)
    → block_tokens (longer x y z b) k ≡ slot_token x ∷ slot_token y ∷ slot_token z ∷ mark DOT ∷ optional_block b k
unfolding longer
longer-tokens x y z none k = refl
longer-tokens x y z (some b) k = refl

mutual
  parted : {a : Bool} → Body a → Parted a
  parted {a} end = bare a closing
  parted (triple x y z b) = (some (only x y z), parted b)
  parted (triple_dot x y z b) = let r = parted b in (some (longer x y z r.0), r.1)
  parted {a} (element e b) = let r = parted b in bare a (next (element_part e) false r.0 r.1)
  parted {a} (element_dot e b) = let r = parted b in bare a (next (element_part e) true r.0 r.1)

  element_part : Element → Part
  element_part (G.groups g us) = group_or_union (grouped (parted g)) (union_star us)
  element_part (G.optional g) = optional (grouped (parted g))
  element_part (G.filter d) = a_filter (filter d)
  element_part (G.trust_as v) = a_filter (trust_as v)
  element_part (G.ensure l u) = a_filter (ensure l u)

  union_star : Unions → UnionStar
  union_star G.none = single
  union_star (G.and_union g us) = union (grouped (parted g)) (union_star us)

mutual
  unfolding parted

  parted-tokens : {a : Bool} (b : Body a) (k : List Token) → parted_tokens a (parted b) k ≡ body_tokens b k
  parted-tokens {a} end k = bare-tokens a closing k
  parted-tokens (triple x y z b) k = ap (λ (r : List Token). slot_token x ∷ slot_token y ∷ slot_token z ∷ r) (parted-tokens b k)
  parted-tokens (triple_dot x y z b) k =
      longer-tokens x y z (parted b).0 (star_tokens (parted b).1 k)
      ∙ ap (λ (r : List Token). slot_token x ∷ slot_token y ∷ slot_token z ∷ mark DOT ∷ r) (parted-tokens b k)
  parted-tokens {a} (element e b) k =
      bare-tokens a (next (element_part e) false (parted b).0 (parted b).1) k
      ∙ ap (part_tokens (element_part e)) (parted-tokens b k) ∙ element-tokens e (body_tokens b k)
  parted-tokens {a} (element_dot e b) k =
      bare-tokens a (next (element_part e) true (parted b).0 (parted b).1) k
      ∙ ap (λ (r : List Token). part_tokens (element_part e) (mark DOT ∷ r)) (parted-tokens b k)
      ∙ element-tokens e (mark DOT ∷ body_tokens b k)

  element-tokens : (e : Element) (k : List Token) → part_tokens (element_part e) k ≡ element_tokens e k
  element-tokens (G.groups g us) k =
      ap (λ (r : List Token). mark LBRACE ∷ r) (parted-tokens g (union_tokens (union_star us) k) ∙ ap (body_tokens g) (union_star-tokens us k))
  element-tokens (G.optional g) k = ap (λ (r : List Token). mark OPTIONAL ∷ mark LBRACE ∷ r) (parted-tokens g k)
  element-tokens (G.filter d) k = refl
  element-tokens (G.trust_as v) k = refl
  element-tokens (G.ensure l u) k = refl

  union_star-tokens : (us : Unions) (k : List Token) → union_tokens (union_star us) k ≡ unions_tokens us k
  union_star-tokens G.none k = refl
  union_star-tokens (G.and_union g us) k =
      ap (λ (r : List Token). mark UNION ∷ mark LBRACE ∷ r)
      (parted-tokens g (union_tokens (union_star us) k) ∙ ap (body_tokens g) (union_star-tokens us k))

pub query-sparql : (q : Query) → (g : GroupGraphPattern) × (group_tokens g [] ≡ tokens q)
query-sparql q = (grouped (parted q), ap (λ (r : List Token). mark LBRACE ∷ r) (parted-tokens q []))

pub derives-sparql : (q : Query) (s : List ℕ) → Derives q s → (g : GroupGraphPattern) × DerivesSparql g s
derives-sparql q s d = let r = query-sparql q in (r.0, subst⁻¹ (λ (ts : List Token). Written false ts s) r.1 d)
