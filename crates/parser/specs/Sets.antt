-- What the functions promise that join and unite the nodes standing last in a buffer, and put a triple into the last set. Assumes nothing.
use Rattle.std.specs.Prelude.{◌≡◌, cond, List, [], ◌∷◌, ◌++◌, ℕ, ◌+◌, ◌%◌, ◌≤◌, ◌<◌, ltb, length, drop}
use Rattle.std.proofs.Math.Option.{Option, none, some}
use Rattle.tsparql.specs.Query.{Node, Pattern, pattern_set, union}
use Rattle.tsparql.specs.Writing.{node_bytes, three_bytes}
use Rattle.grammar.specs.Grammar.{Slot}
use Rattle.grammar.specs.Meaning.{is_empty_set, joined, pattern_of}
use Rattle.blocks.specs.Buffers.{Filled}
use Rattle.blocks.specs.Blocks.{Holds}
use Rattle.words.specs.Words.{slot_word}

-- ---- nodes

-- an operand whose union goes on, where there is one
abbrev pub pending_bytes : Option Node → List ℕ
pending_bytes none = []
pending_bytes (some u) = node_bytes u

-- it, united with x
abbrev pub union_with : Option Node → Node → Node
union_with none x = x
union_with (some u) x = union u x

-- x, the node that stands last, is united with the operand that waits before it
abbrev pub Unites : Filled → Filled → ℕ → ℕ → Type 0
Unites out out' mid end =
    (all : ℕ) (pre : List ℕ) (p : Option Node) (x : Node) → mid ≡ length pre → end ≡ length pre + length (pending_bytes p)
    → Holds out (pre ++ (pending_bytes p ++ node_bytes x)) all → out.end < all → Holds out' (pre ++ node_bytes (union_with p x)) all

-- the last two nodes are joined
abbrev pub Joins : Filled → Filled → ℕ → ℕ → Type 0
Joins out out' from mid =
    (all : ℕ) (pre : List ℕ) (x y : Node) → from ≡ length pre → mid ≡ length pre + length (node_bytes x)
    → Holds out (pre ++ (node_bytes x ++ node_bytes y)) all → out.end < all → Holds out' (pre ++ node_bytes (joined x y)) all

-- what stands before a set that is joined to x
abbrev pub before : Node → List ℕ
before x = cond (is_empty_set x) [] (16 ∷ node_bytes x)

-- an empty set stands behind x, and is joined to it
abbrev pub Begins : Filled → Filled → ℕ → Type 0
Begins out out' from =
    (all : ℕ) (pre : List ℕ) (x : Node) → from ≡ length pre → Holds out (pre ++ node_bytes x) all → out.end + 2 ≤ all
    → Holds out' (pre ++ (before x ++ (0 ∷ []))) all

-- ---- triples

-- a slot's bytes, from its word
abbrev pub slot_bytes : ℕ → List ℕ
slot_bytes w = three_bytes (cond (ltb w 2097152) (1048576 + w % 256) (w % 2097152))

-- the triple whose words stand at i is in the set that stands last
abbrev pub Adds : List ℕ → ℕ → Filled → Filled → ℕ → Type 0
Adds t i out out' run =
    (all : ℕ) (pre : List ℕ) (ps : List Pattern) (x y z : Slot) (rest : List ℕ) → run ≡ length ps → length ps ≤ 14
    → drop i t ≡ slot_word x ∷ slot_word y ∷ slot_word z ∷ rest → Holds out (pre ++ node_bytes (pattern_set ps)) all → out.end + 9 ≤ all
    → Holds out' (pre ++ node_bytes (pattern_set (ps ++ (pattern_of x y z ∷ [])))) all
