-- Where the gathering of a group stands (`Stands`): what is joined so far, an operand whose union goes on, the items to come, what the
-- buffer holds; and what the functions promise that take it on. Assumes nothing.
use Rattle.std.specs.Prelude.{◌≡◌, true, cond, ◌||◌, List, [], ◌∷◌, ◌++◌, ℕ, ◌+◌, ◌*◌, ◌≤◌, ◌<◌, eqb, length, drop, get_or}
use Rattle.std.specs.Prelude as P
use Rattle.std.proofs.Math.Option.{Option, none, some}
use Rattle.tsparql.specs.Query.{Pattern, Node, pattern_set, union}
use Rattle.tsparql.specs.Writing.{node_bytes}
use Rattle.grammar.specs.Tokens.{Token}
use Rattle.grammar.specs.Grammar.{Body, body_tokens, Unions, unions_tokens}
use Rattle.grammar.specs.Meaning.{Item, a_group, joined, gathered, group_node, items, united}
use Rattle.blocks.specs.Buffers.{Filled}
use Rattle.blocks.specs.Blocks.{Holds}
use Rattle.words.specs.Words.{words}
use Rattle.groups.specs.Items.{Items, Follows}
use Rattle.groups.specs.Passes.{BodyAt, gathered_bytes}
use Rattle.parser.specs.Sets.{pending_bytes}
use Rattle.parser.specs.declared.Stage.{Stage}

-- ---- what is to come

-- a further group of the union whose operand so far is u, and then items
pub record Uniting (u : Node) (ws : List ℕ) (is : List Item) (rest : List Token) : Type 0 where
  pub inner : Body true
  pub unions : Unions
  pub tail : List Token
  pub later : List Item
  pub written : ws ≡ 85 ∷ 123 ∷ words (body_tokens inner (unions_tokens unions tail))
  pub means : is ≡ a_group (united (union u (group_node (items inner))) unions) ∷ later
  pub follows : Follows tail later rest

-- so it is where an operand waits; else items are to come
abbrev pub Coming : Option Node → List ℕ → List Item → List Token → Type 0
Coming none ws is rest = Items ws is rest
Coming (some u) ws is rest = Uniting u ws is rest

-- no set is open while an operand waits
abbrev pub Closed : Option Node → List Pattern → Type 0
Closed none run = Unit {0}
Closed (some u) run = run ≡ []

-- from the stage g the words t, up to those of rest, give the node `final` behind the `from` bytes `pre`
pub record Stands (t : List ℕ) (rest : List Token) (final : Node) (from all : ℕ) (pre : List ℕ) (out : Filled) (g : Stage) : Type 0 where
  pub start : from ≡ length pre
  pub left : Node
  pub run : List Pattern
  pub pending : Option Node
  pub items : List Item
  pub coming : Coming pending (drop g.next t) items rest
  pub yields : gathered left run items ≡ final
  pub closed : Closed pending run
  pub holds : Holds out (pre ++ (node_bytes (joined left (pattern_set run)) ++ pending_bytes pending)) all
  pub middle : g.mid ≡ length pre + length (node_bytes (joined left (pattern_set run)))
  pub count : g.run ≡ length run
  pub few : length run ≤ 15
  pub room : out.end + 4 * length (drop g.next t) ≤ all + 4 * length rest + 1

-- ---- promises

-- what is joined in a body was written behind the end, and its words end at `next`
abbrev pub Gathers : List ℕ → ℕ → Filled → Filled → ℕ → Type 0
Gathers t at out out' next =
    (all : ℕ) (g : Body true) (rest : List Token) (pre : List ℕ) → BodyAt t at g rest → Holds out pre all
    → out.end + 4 * length (drop at t) ≤ all + 4 * length rest
    → (drop next t ≡ words rest) × Holds out' (pre ++ gathered_bytes g) all

-- where the body begins of a group whose first word is w at i: behind '{', and behind the brace that follows OPTIONAL or UNION
abbrev pub body_place : ℕ → ℕ → P.Option ℕ
body_place w i = cond (eqb w 123) (P.Some (i + 1)) (cond (eqb w 79 || eqb w 85) (P.Some (i + 2)) P.None)

-- the gathering goes on over a triple
abbrev pub Triples : List ℕ → ℕ → Filled → Filled → Stage → Stage → Type 0
Triples t from out out' g r =
    (all : ℕ) (rest : List Token) (pre : List ℕ) (final : Node) → 256 ≤ get_or t g.next 0 → Stands t rest final from all pre out g
    → Stands t rest final from all pre out' r

-- over whatever begins no group and does not end this one
abbrev pub Passes : List ℕ → ℕ → Filled → Filled → Stage → Stage → Type 0
Passes t from out out' g r =
    (all : ℕ) (rest : List Token) (pre : List ℕ) (final : Node) → (get_or t g.next 0 ≡ 125 → ⊥)
    → body_place (get_or t g.next 0) g.next ≡ P.None
    → Stands t rest final from all pre out g → Stands t rest final from all pre out' r

-- and over a group, whose body begins at a, and what is joined in which was written from `end` on
abbrev pub Closes : List ℕ → ℕ → ℕ → Filled → Filled → Stage → ℕ → ℕ → Stage → Type 0
Closes t a from out out' g end next r =
    (all : ℕ) (rest : List Token) (pre : List ℕ) (out₀ : Filled) (final : Node) → P.Some a ≡ body_place (get_or t g.next 0) g.next
    → end ≡ out₀.end → Stands t rest final from all pre out₀ g → Gathers t a out₀ out next
    → Stands t rest final from all pre out' r
