-- What the passes over a group promise. Each is about every body whose words stand at a place, and about the last block of a buffer, which
-- begins behind `pre`. Assumes nothing.
use Rattle.std.specs.Prelude.{◌≡◌, true, cond, List, [], ◌∷◌, ◌++◌, ℕ, ◌+◌, ◌-◌, ◌%◌, ◌≤◌, ltb, length, drop}
use Rattle.std.proofs.Math.Option.{Option, none, some}
use Rattle.tsparql.specs.Query.{Condition, pattern_set}
use Rattle.tsparql.specs.Writing.{node_bytes, condition_bytes}
use Rattle.grammar.specs.Tokens.{Token}
use Rattle.grammar.specs.Grammar.{Body, body_tokens}
use Rattle.grammar.specs.Meaning.{Item, gathered, filters, conjoined, condition, unfiltered, group_node, items}
use Rattle.blocks.specs.Buffers.{Filled}
use Rattle.blocks.specs.Blocks.{Holds}
use Rattle.words.specs.Words.{words}

-- the words of the body b stand at a place, and then those of rest
abbrev pub BodyAt : List ℕ → ℕ → Body true → List Token → Type 0
BodyAt t at b rest = drop at t ≡ words (body_tokens b rest)

-- ---- one pass

-- the block of x became that of f x is by the items is of the body, if it fits
abbrev pub Makes : (S : Type 0) → (S → List Item → S) → (S → List ℕ) → List ℕ → ℕ → ℕ → Filled → Filled → Type 0
Makes S f bytes t at from out out' =
    (all : ℕ) (b : Body true) (rest : List Token) (pre : List ℕ) (x : S) → BodyAt t at b rest → from ≡ length pre → Holds out (pre ++ bytes x) all
    → length pre + length (bytes (f x (items b))) ≤ all → Holds out' (pre ++ bytes (f x (items b))) all

-- conditions joined by and, behind one that may stand before them
abbrev pub conjoin : Option Condition → List Condition → Option Condition
conjoin none [] = none
conjoin none (c ∷ cs) = some (conjoined c cs)
conjoin (some c) cs = some (conjoined c cs)

-- those of the filters among items
abbrev pub conjoin_filters : Option Condition → List Item → Option Condition
conjoin_filters o is = conjoin o (filters is)

-- the bytes of a condition, where there is one
abbrev pub some_bytes : Option Condition → List ℕ
some_bytes none = []
some_bytes (some c) = condition_bytes c

-- the filters of the body, joined by and, were written behind the end
abbrev pub Conjoins : List ℕ → ℕ → Filled → Filled → Type 0
Conjoins t at out out' = Makes (Option Condition) conjoin_filters some_bytes t at out.end out out'

-- ---- a group

-- the block of what is joined in the body
abbrev pub gathered_bytes : Body true → List ℕ
gathered_bytes b = node_bytes (gathered (pattern_set []) [] (items b))

-- it became that of the group without its filters
abbrev pub Unfilters : List ℕ → ℕ → ℕ → Filled → Filled → Type 0
Unfilters t at from out out' =
    (all : ℕ) (b : Body true) (rest : List Token) (pre : List ℕ) → BodyAt t at b rest → from ≡ length pre → Holds out (pre ++ gathered_bytes b) all
    → length pre + length (node_bytes (unfiltered (items b))) ≤ all → Holds out' (pre ++ node_bytes (unfiltered (items b))) all

-- it became that of the group with its filters
abbrev pub Filters : List ℕ → ℕ → ℕ → Filled → Filled → Type 0
Filters t at from out out' =
    (all : ℕ) (b : Body true) (rest : List Token) (pre : List ℕ) → BodyAt t at b rest → from ≡ length pre → Holds out (pre ++ gathered_bytes b) all
    → length pre + length (node_bytes (group_node (items b))) ≤ all → Holds out' (pre ++ node_bytes (group_node (items b))) all

-- it became that of an OPTIONAL's group, and the condition of the left join stands behind it
abbrev pub Splits : List ℕ → ℕ → ℕ → Filled → Filled → ℕ → Type 0
Splits t at from out out' mid =
    (all : ℕ) (b : Body true) (rest : List Token) (pre : List ℕ) → BodyAt t at b rest → from ≡ length pre → Holds out (pre ++ gathered_bytes b) all
    → length pre + length (node_bytes (unfiltered (items b))) + length (condition_bytes (condition (filters (items b)))) ≤ all
    → (mid ≡ length pre + length (node_bytes (unfiltered (items b))))
    × Holds out' (pre ++ (node_bytes (unfiltered (items b)) ++ condition_bytes (condition (filters (items b))))) all

-- ---- bounds

-- a bound plus 1000, from its word
abbrev pub bound_in : ℕ → ℕ
bound_in w = cond (ltb w 4194304) (1000 + w % 1048576 % 1001) (1000 - w % 1048576 % 1001)
