-- The groups of SPARQL (2008), in the rules of W3C's recommendation and by their numbers there:
--   [20] GroupGraphPattern        ::= '{' TriplesBlock? ( ( GraphPatternNotTriples | Filter ) '.'? TriplesBlock? )* '}'
--   [21] TriplesBlock             ::= TriplesSameSubject ( '.' TriplesBlock? )?
--   [22] GraphPatternNotTriples   ::= OptionalGraphPattern | GroupOrUnionGraphPattern | GraphGraphPattern
--   [23] OptionalGraphPattern     ::= 'OPTIONAL' GroupGraphPattern
--   [25] GroupOrUnionGraphPattern ::= GroupGraphPattern ( 'UNION' GroupGraphPattern )*
-- For TriplesSameSubject one triple stands, and for Filter those of Grammar, with TRUST AS and ENSURE TRUST beside them; there is no
-- GraphGraphPattern. That these groups and those of Grammar have the same tokens is proved both ways (proofs/Dots). Assumes nothing.
use Rattle.std.specs.Prelude.{Bool, true, false, List, [], ◌∷◌, ℕ}
use Rattle.std.proofs.Math.Option.{Option, none, some}
use Rattle.grammar.specs.Tokens.{Token, mark, LBRACE, RBRACE, DOT, OPTIONAL, UNION, Written}
use Rattle.grammar.specs.Grammar.{Variable, Slot, slot_token, Thousandths, Disjunction, element_tokens}
use Rattle.grammar.specs.Grammar as G

-- [21]: a triple, a triple and a dot, a triple and a dot and a block
pub data TriplesBlock : Type 0 where
  only : Slot → Slot → Slot → TriplesBlock
  dotted : Slot → Slot → Slot → TriplesBlock
  more : Slot → Slot → Slot → TriplesBlock → TriplesBlock

-- Filter, and what else may stand where one may
pub data Filter : Type 0 where
  filter : Disjunction → Filter
  trust_as : Variable → Filter
  ensure : Thousandths → Thousandths → Filter

mutual
  -- [20]
  pub data GroupGraphPattern : Type 0 where
    group : Option TriplesBlock → Star → GroupGraphPattern

  -- the star of [20]: a part, whether a dot follows it, and the block that may follow; then the rest of the star
  pub data Star : Type 0 where
    closing : Star
    next : Part → Bool → Option TriplesBlock → Star → Star

  -- GraphPatternNotTriples | Filter, with [22], [23] and [25] put in
  pub data Part : Type 0 where
    optional : GroupGraphPattern → Part
    group_or_union : GroupGraphPattern → UnionStar → Part
    a_filter : Filter → Part

  -- the star of [25]
  pub data UnionStar : Type 0 where
    single : UnionStar
    union : GroupGraphPattern → UnionStar → UnionStar

-- ---- the tokens

abbrev pub block_tokens : TriplesBlock → List Token → List Token
block_tokens (only x y z) rest = slot_token x ∷ slot_token y ∷ slot_token z ∷ rest
block_tokens (dotted x y z) rest = slot_token x ∷ slot_token y ∷ slot_token z ∷ mark DOT ∷ rest
block_tokens (more x y z b) rest = slot_token x ∷ slot_token y ∷ slot_token z ∷ mark DOT ∷ block_tokens b rest

abbrev pub optional_block : Option TriplesBlock → List Token → List Token
optional_block none rest = rest
optional_block (some b) rest = block_tokens b rest

abbrev pub optional_dot : Bool → List Token → List Token
optional_dot true rest = mark DOT ∷ rest
optional_dot false rest = rest

-- the tokens of a filter are those of Grammar
abbrev pub filter_tokens : Filter → List Token → List Token
filter_tokens (filter d) rest = element_tokens (G.filter d) rest
filter_tokens (trust_as v) rest = element_tokens (G.trust_as v) rest
filter_tokens (ensure l u) rest = element_tokens (G.ensure l u) rest

abbrev mutual
  pub group_tokens : GroupGraphPattern → List Token → List Token
  group_tokens (group b s) rest = mark LBRACE ∷ optional_block b (star_tokens s rest)

  pub star_tokens : Star → List Token → List Token
  star_tokens closing rest = mark RBRACE ∷ rest
  star_tokens (next p d b s) rest = part_tokens p (optional_dot d (optional_block b (star_tokens s rest)))

  pub part_tokens : Part → List Token → List Token
  part_tokens (optional g) rest = mark OPTIONAL ∷ group_tokens g rest
  part_tokens (group_or_union g us) rest = group_tokens g (union_tokens us rest)
  part_tokens (a_filter f) rest = filter_tokens f rest

  pub union_tokens : UnionStar → List Token → List Token
  union_tokens single rest = rest
  union_tokens (union g us) rest = mark UNION ∷ group_tokens g (union_tokens us rest)

-- the text s is derived by W3C's rules
abbrev pub DerivesSparql : GroupGraphPattern → List ℕ → Type 0
DerivesSparql g s = Written false (group_tokens g []) s
