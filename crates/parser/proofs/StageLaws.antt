-- A stage of the gathering: there are words to come (`stage-inside`), and where no UNION is next no operand waits (`stage-items`,
-- `stage-holds`). How many words a body has, at least. Assumes nothing.
use mathlib.Core.Path.{◌≡◌, refl, sym, ap, ◌∙◌, subst}
use mathlib.Core.Bool.{Bool, true, false, cond, ◌||◌}
use Rattle.std.proofs.Common.{Some, None}
use lib.Dec.{eqb}
use mathlib.Core.List.{List, [], ◌++◌, append-nil}
use mathlib.Core.Option.{Option, none, some}
use Prim.Native.Nat.{ℕ, ◌+◌, ◌≤◌, ◌<◌}
use native.Mathlib.Omega.{arith}
use lib.ListN.{length, drop, get_or, length-drop, length-map}
use Rattle.tsparql.specs.Query.{Node, pattern_set}
use Rattle.tsparql.specs.Writing.{node_bytes}
use Rattle.grammar.specs.Tokens.{Token}
use Rattle.grammar.specs.Sparql.{optional_dot}
use Rattle.grammar.specs.Grammar.{body_tokens}
use Rattle.grammar.specs.Meaning.{Item, joined}
use Rattle.grammar.proofs.Sizes.{tree-size}
use Rattle.blocks.specs.Buffers.{Filled}
use Rattle.blocks.specs.Blocks.{Holds}
use Rattle.words.specs.Words.{token_word}
use Rattle.words.proofs.WordLaws.{word_first}
use Rattle.groups.specs.Items.{Follows, Items}
use Rattle.parser.specs.Sets.{pending_bytes}
use Rattle.parser.specs.Stages.{Coming, body_place, Stands}
use Rattle.parser.specs.declared.Stage.{Stage}

-- the body of a group begins behind its first word
pub body-forward : (w i a : ℕ) → Some a ≡ body_place w i → i < a
body-forward w i a e = go (eqb w 123) (eqb w 79 || eqb w 85) e
  where
    go : (b c : Bool) → Some a ≡ cond b (Some (i + 1)) (cond c (Some (i + 2)) None) → i < a
    go true c q = let place : a ≡ i + 1 = cc in omega arith
    go false true q = let place : a ≡ i + 2 = cc in omega arith
    go false false q = absurd (cc)

-- ---- how many words

-- a body has more tokens than stand behind it
pub follows-longer : (ts : List Token) (is : List Item) (rest : List Token) → Follows ts is rest → length rest < length ts
follows-longer ts is rest f =
    omega (arith, tree-size f.tree rest, ap length f.written, dot-longer f.dot (body_tokens f.tree rest))
  where
    dot-longer : (b : Bool) (us : List Token) → length us ≤ length (optional_dot b us)
    dot-longer true us = omega arith
    dot-longer false us = omega arith

pub items-longer : (ws : List ℕ) (is : List Item) (rest : List Token) → Items ws is rest → length rest < length ws
items-longer ws is rest i =
    omega (arith, follows-longer i.tail is rest i.follows, ap length i.written, length-map i.tail token_word)

-- ---- a stage

-- what is held, where nothing waits behind it
pub none-waits : (out : Filled) (pre l : List ℕ) (all : ℕ) → Holds out (pre ++ l) all → Holds out (pre ++ (l ++ [])) all
none-waits out pre l all h = subst (λ (x : List ℕ). Holds out (pre ++ x) all) (sym (append-nil l)) h

module _ (t : List ℕ) (rest : List Token) (final : Node) (from all : ℕ) (pre : List ℕ) (out : Filled) (g : Stage)
    (s : Stands t rest final from all pre out g) where
  pub stage-inside : g.next < length t
  stage-inside = go s.pending s.coming
    where
      go : (p : Option Node) → Coming p (drop g.next t) s.items rest → g.next < length t
      go none i = omega (arith, items-longer _ _ _ i, length-drop g.next t)
      go (some u) c = omega (arith, ap length c.written, length-drop g.next t)

  pub stage-items : (get_or t g.next 0 ≡ 85 → ⊥) → Items (drop g.next t) s.items rest × (pending_bytes s.pending ≡ [])
  stage-items w = go s.pending s.coming
    where
      go : (p : Option Node) → Coming p (drop g.next t) s.items rest
          → Items (drop g.next t) s.items rest × (pending_bytes p ≡ [])
      go none i = (i, refl)
      go (some u) c = absurd (w (word_first t _ g.next _ c.written))

  pub stage-holds : pending_bytes s.pending ≡ [] → Holds out (pre ++ node_bytes (joined s.left (pattern_set s.run))) all
  stage-holds e =
      let J = node_bytes (joined s.left (pattern_set s.run)) in
      subst (λ (l : List ℕ). Holds out (pre ++ l) all) (ap (λ (l : List ℕ). J ++ l) e ∙ append-nil J) s.holds
