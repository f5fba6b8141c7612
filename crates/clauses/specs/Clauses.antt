-- The promises of the functions that write a condition (`Operand`, `Conditions`, `Connects`), and where the writing stands between two of
-- their calls: a primary or the closing parenthesis is to come (`State`), or a primary was written (`Wrote`). Assumes nothing.
use Rattle.std.specs.Prelude.{◌≡◌, cond, List, [], ◌∷◌, ◌++◌, ◌⊎◌, ℕ, ◌+◌, ◌%◌, ◌≤◌, eqb, ltb, length, drop, get_or}
use Rattle.std.proofs.Math.Option.{Option}
use Rattle.tsparql.specs.Query.{Condition}
use Rattle.tsparql.specs.Writing.{condition_bytes, three_bytes}
use Rattle.grammar.specs.Tokens.{Token, mark, RPAREN}
use Rattle.grammar.specs.Grammar.{Disjunction, disjunction_tokens, Primary, primary_tokens}
use Rattle.grammar.specs.Meaning.{disjunction_of, primary_of}
use Rattle.blocks.specs.Buffers.{Filled, appended}
use Rattle.blocks.specs.Blocks.{Holds}
use Rattle.words.specs.Words.{words}
use Rattle.clauses.specs.Tails.{Tail, tail_tokens, and_with, or_bytes, and_bytes, negations, not_bytes, ends_as}
use Rattle.clauses.specs.declared.Clause.{Clause}

-- ---- a primary that begins with neither '!' nor '('

-- its bytes, by its words w, op and x: BOUND, '<', '=' before a variable, '=' before a term
abbrev pub operand_bytes : ℕ → ℕ → ℕ → List ℕ
operand_bytes w op x =
    cond (eqb w 66) (x % 16 ∷ [])
    (cond (eqb op 60) ((48 + w % 16) ∷ x % 16 ∷ [])
    (cond (ltb x 2097152) ((16 + w % 16) ∷ x % 16 ∷ []) ((32 + w % 16) ∷ three_bytes (x % 2097152))))

-- the number of its words
abbrev pub operand_words : ℕ → ℕ
operand_words w = cond (eqb w 66) 4 3

-- the one whose words begin at i was written behind the buffer's end, and its words end at `next`
pub record Operand (t : List ℕ) (i : ℕ) (out out' : Filled) (next : ℕ) : Type 0 where
  pub behind : next ≡ i + operand_words (get_or t i 0)
  pub bytes : out' ≡ appended out (operand_bytes (get_or t i 0) (get_or t (i + 1) 0) (get_or t (i + 2) 0))

-- ---- conditions

-- a condition was written behind the buffer's end, and its words end, over its closing parenthesis, at `next`; if it fits
abbrev pub Conditions : List ℕ → ℕ → Filled → Filled → ℕ → Type 0
Conditions t at out out' next =
    (all : ℕ) (d : Disjunction) (rest : List Token) (pre : List ℕ) → drop at t ≡ words (disjunction_tokens d (mark RPAREN ∷ rest))
    → Holds out pre all → out.end + length (condition_bytes (disjunction_of d)) ≤ all
    → (drop next t ≡ words rest) × Holds out' (pre ++ condition_bytes (disjunction_of d)) all

-- a primary is to come: behind what stands before the last `||`, behind what stands before the last `&&`, and behind so many `!`
pub record Expects (t : List ℕ) (rest : List Token) (final : Condition) (all : ℕ) (pre : List ℕ) (out : Filled) (s : Clause) : Type 0 where
  pub before : Option Condition
  pub prior : Option Condition
  pub nots : ℕ
  pub first : Primary
  pub later : Tail
  pub written : drop s.next t ≡ words (primary_tokens first (tail_tokens later (mark RPAREN ∷ rest)))
  pub means : ends_as before (and_with prior (negations nots (primary_of first))) later ≡ final
  pub holds : Holds out (pre ++ (or_bytes before ++ (and_bytes prior ++ not_bytes nots))) all
  pub place : s.and ≡ length pre + length (or_bytes before)
  pub room : length pre + length (condition_bytes final) ≤ all

-- the closing parenthesis is to come
pub record Ended (t : List ℕ) (rest : List Token) (final : Condition) (all : ℕ) (pre : List ℕ) (out : Filled) (s : Clause) : Type 0 where
  pub written : drop s.next t ≡ 41 ∷ words rest
  pub holds : Holds out (pre ++ condition_bytes final) all

-- one of the two
abbrev pub State : List ℕ → List Token → Condition → ℕ → List ℕ → Filled → Clause → Type 0
State t rest final all pre out s = Expects t rest final all pre out s ⊎ Ended t rest final all pre out s

-- a primary was written, behind what stands before the place `and`
pub record Wrote (t : List ℕ) (rest : List Token) (final : Condition) (all : ℕ) (pre : List ℕ) (out : Filled) (and next : ℕ) : Type 0 where
  pub before : Option Condition
  pub conjunct : Condition
  pub later : Tail
  pub written : drop next t ≡ words (tail_tokens later (mark RPAREN ∷ rest))
  pub means : ends_as before conjunct later ≡ final
  pub holds : Holds out (pre ++ (or_bytes before ++ condition_bytes conjunct)) all
  pub place : and ≡ length pre + length (or_bytes before)
  pub room : length pre + length (condition_bytes final) ≤ all

-- the writing goes on over `&&` or `||`, or has come to the closing parenthesis
abbrev pub Connects : List ℕ → ℕ → Filled → Filled → ℕ → ℕ → Clause → Type 0
Connects t from out out' and next r =
    (all : ℕ) (rest : List Token) (final : Condition) (pre : List ℕ) → from ≡ length pre → Wrote t rest final all pre out and next
    → State t rest final all pre out' r
