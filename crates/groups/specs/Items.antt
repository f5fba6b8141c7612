-- The words of a group's body, item by item: which tokens are those of a body from an item on, where the next item begins, and the next one
-- that begins with a word. Assumes nothing.
use Rattle.std.specs.Prelude.{◌≡◌, Bool, cond, ◌||◌, List, [], ◌∷◌, ℕ, ◌+◌, ◌≤◌, ◌<◌, eqb, leb, length, drop, get_or, Option, Some, None}
use Rattle.grammar.specs.Tokens.{Token}
use Rattle.grammar.specs.Grammar.{Body, body_tokens, Unions, unions_tokens}
use Rattle.grammar.specs.Sparql.{optional_dot}
use Rattle.grammar.specs.Meaning.{Item, a_triple, a_group, an_optional, a_filter, a_projection, a_bound, items}
use Rattle.words.specs.Words.{words}
use Rattle.words.specs.Links.{closing}

-- the tokens ts are those of a body with the items is, perhaps behind a dot, and then rest
pub record Follows (ts : List Token) (is : List Item) (rest : List Token) : Type 0 where
  pub bare : Bool
  pub tree : Body bare
  pub dot : Bool
  pub written : ts ≡ optional_dot dot (body_tokens tree rest)
  pub means : is ≡ items tree

-- the words ws are those of such tokens
pub record Items (ws : List ℕ) (is : List Item) (rest : List Token) : Type 0 where
  pub tail : List Token
  pub written : ws ≡ words tail
  pub follows : Follows tail is rest

-- Where the item behind the one at i begins, of which w is the first word: a triple has three words, TRUST AS too, ENSURE TRUST seven; a
-- group, a filter, an OPTIONAL and a further group of a UNION end where their bracket closes; a dot stands by itself.
abbrev pub place_by : ℕ → List ℕ → ℕ → ℕ
place_by w t i =
    cond (leb 256 w || eqb w 84) (i + 3)
    (cond (eqb w 69) (i + 7)
    (cond (eqb w 123) (closing t (i + 1))
    (cond (eqb w 70 || (eqb w 79 || eqb w 85)) (closing t (i + 2)) (i + 1))))

-- the same by the words alone
unfoldable pub next_place : List ℕ → ℕ → ℕ
next_place t i = place_by (get_or t i 0) t i

-- the words ws are those of a body with the items is, where further groups of a UNION, which have no item of their own, may stand before
pub record Walks (ws : List ℕ) (is : List Item) (rest : List Token) : Type 0 where
  pub unions : Unions
  pub tail : List Token
  pub written : ws ≡ words (unions_tokens unions tail)
  pub follows : Follows tail is rest

-- the first word of an item; any word from 256 on begins a triple
abbrev pub item_word : Item → ℕ
item_word (a_triple p) = 256
item_word (a_group n) = 123
item_word (an_optional c n) = 79
item_word (a_filter c) = 70
item_word (a_projection v) = 84
item_word (a_bound l u) = 69

-- the items before `later` begin with other words than w
pub data Skips (w : ℕ) (later : List Item) : List Item → Type 0 where
  skips_none : Skips w later later
  skips_one : (x : Item) (is : List Item) → (item_word x ≡ w → ⊥) → Skips w later is → Skips w later (x ∷ is)

-- the next item from `at` on that begins with the word w: none does, or it stands at i
abbrev pub Seeks : ℕ → List ℕ → ℕ → Option ℕ → Type 0
Seeks w t at None = (is : List Item) (rest : List Token) → Walks (drop at t) is rest → Skips w [] is
Seeks w t at (Some i) =
    (at ≤ i) × (i < length t) × (get_or t i 0 ≡ w)
    × ((is : List Item) (rest : List Token) → Walks (drop at t) is rest → (later : List Item) × Walks (drop i t) later rest × Skips w later is)
