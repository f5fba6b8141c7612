-- A primary that begins with neither '!' nor '(': its first three words tell its bytes and how many words it has (`told`); what `operand`
-- answers at each of its returns (`operand-less` to `operand-term`), and what that is of a primary (`operand-writes`). Assumes nothing.
use mathlib.Core.Path.{◌≡◌, refl, sym, ap, ◌∙◌}
use mathlib.Core.Bool.{false}
use mathlib.Core.List.{List, [], ◌∷◌, ◌++◌}
use Prim.Native.Nat.{ℕ, ◌+◌, ◌%◌, ◌≤◌, ◌<◌}
use native.Mathlib.Omega.{arith}
use native.Mathlib.Nat.{add-zero}
use lib.Dec.{eqb}
use lib.ListN.{length, drop, get_or}
use borrow.Author.Tests.{eq-eqb, ne_eqb, lt-ltb, le-ltb}
use Rattle.tsparql.specs.Strikes.{ascii}
use Rattle.tsparql.specs.Writing.{condition_bytes, three_bytes}
use Rattle.grammar.specs.Tokens.{Token}
use Rattle.grammar.specs.Grammar.{Variable, Primary, negatable, equal, less, primary_tokens, term, variable, bound, not, parens}
use Rattle.grammar.specs.Meaning.{primary_of}
use Rattle.blocks.specs.Buffers.{Filled, appended}
use Rattle.blocks.specs.Blocks.{Holds}
use Rattle.words.specs.Words.{words}
use Rattle.clauses.specs.Clauses.{operand_bytes, operand_words, Operand}
use Rattle.grammar.proofs.Basics.{cond_cases}
use Rattle.blocks.proofs.Holding.{appends}
use Rattle.words.proofs.WordLaws.{word_at, words-on}

-- the word of a variable is not BOUND, and has its name in the low bits
variable-other : (v : Variable) → eqb (256 + v.name) 66 ≡ false
variable-other v = ne_eqb (256 + v.name) 66 (λ e. omega arith)

variable-name : (v : Variable) → (256 + v.name) % 16 ≡ v.name
variable-name v = let small = v.small in omega arith

-- the words w, op and x tell both of a primary
record Told (p : Primary) (rest : List Token) (w op x : ℕ) : Type 0 where
  bytes : operand_bytes w op x ≡ condition_bytes (primary_of p)
  behind : drop (operand_words w) (words (primary_tokens p rest)) ≡ words rest

module _ (rest : List Token) where
  -- the word j of a primary
  abbrev word_of : Primary → ℕ → ℕ
  word_of p j = get_or (words (primary_tokens p rest)) j 0

  told : (p : Primary) → (word_of p 0 ≡ 33 → ⊥) → (word_of p 0 ≡ 40 → ⊥) → Told p rest (word_of p 0) (word_of p 1) (word_of p 2)
  unfolding condition_bytes primary_of ascii
  told (negatable (bound v)) f g =
      let name : (256 + v.name) % 16 ≡ 0 + v.name = omega (arith, variable-name v) in
      record { bytes = ap (λ (b : ℕ). b ∷ []) name; behind = refl }
  told (negatable (not n)) f g = absurd (f refl)
  told (negatable (parens d)) f g = absurd (g refl)
  told (equal v (variable x)) f g =
      let small = x.small in
      record {
        bytes = rw (variable-other v, lt-ltb (256 + x.name) 2097152 (omega arith), variable-name v, variable-name x);
        behind = rw (variable-other v);
      }
  told (equal v (term x)) f g =
      let most = x.most in
      let number : (2097152 + x.number) % 2097152 ≡ x.number = omega arith in
      record {
        bytes = rw (variable-other v, le-ltb (2097152 + x.number) 2097152 (omega arith), variable-name v, number);
        behind = rw (variable-other v);
      }
  told (less v x) f g =
      record { bytes = rw (variable-other v, variable-name v, variable-name x); behind = rw (variable-other v) }

-- ---- what `operand` answers

module _ (t : List ℕ) (out out' : Filled) (i w op x : ℕ) (first : w ≡ get_or t i 0) (second : op ≡ get_or t (i + 1) 0)
    (third : x ≡ get_or t (i + 2) 0) where
  -- the bytes were written
  abbrev Adds : List ℕ → Type 0
  Adds bs = out' ≡ appended out bs

  -- the answer where so many words were read
  abbrev Answer : ℕ → Type 0
  Answer size = Operand t i out out' (i + size)

  answer : (size : ℕ) (bs : List ℕ) → size ≡ operand_words w → bs ≡ operand_bytes w op x → Adds bs → Answer size
  answer size bs e q a = record { behind = rw (sym first, e); bytes = rw (sym first, sym second, sym third, sym q) a }

  module _ (no_bound : w ≡ 66 → ⊥) where
    pub operand-less : op ≡ 60 → Adds ((48 + w % 16) ∷ x % 16 ∷ []) → Answer 3
    operand-less l = let e = ne_eqb w 66 no_bound in answer 3 _ (rw e) (rw (e, eq-eqb op 60 l))

    module _ (no_less : op ≡ 60 → ⊥) where
      pub operand_same : x < 2097152 → Adds ((16 + w % 16) ∷ x % 16 ∷ []) → Answer 3
      operand_same v = let e = ne_eqb w 66 no_bound in answer 3 _ (rw e) (rw (e, ne_eqb op 60 no_less, lt-ltb x 2097152 v))

      pub operand-term : 2097152 ≤ x → Adds ((32 + w % 16) ∷ three_bytes (x % 2097152)) → Answer 3
      operand-term v = let e = ne_eqb w 66 no_bound in answer 3 _ (rw e) (rw (e, ne_eqb op 60 no_less, le-ltb x 2097152 v))

-- ---- what that is of a primary

module _ {t : List ℕ} {i next : ℕ} {out out' : Filled} (o : Operand t i out out' next) where
  pub operand-forward : i < next
  operand-forward =
      rw o.behind (cond_cases (λ (size : ℕ). i < i + size) (eqb (get_or t i 0) 66) (λ e. omega arith) (λ e. omega arith))

  -- it was written behind the end, if it fits
  pub operand-writes :
      (all : ℕ) (p : Primary) (rest : List Token) (pre : List ℕ) → drop i t ≡ words (primary_tokens p rest) → (get_or t i 0 ≡ 33 → ⊥)
      → (get_or t i 0 ≡ 40 → ⊥) → Holds out pre all → out.end + length (condition_bytes (primary_of p)) ≤ all
      → (drop next t ≡ words rest) × Holds out' (pre ++ condition_bytes (primary_of p)) all
  operand-writes all p rest pre here f g h room =
      let w₀ : get_or t i 0 ≡ word_of rest p 0 = ap (λ (k : ℕ). get_or t k 0) (sym (add-zero i)) ∙ word_at t _ i 0 here in
      let w₁ : get_or t (i + 1) 0 ≡ word_of rest p 1 = word_at t _ i 1 here in
      let w₂ : get_or t (i + 2) 0 ≡ word_of rest p 2 = word_at t _ i 2 here in
      let q = told rest p (λ z. f (w₀ ∙ z)) (λ z. g (w₀ ∙ z)) in
      let size = operand_words (get_or t i 0) in
      let behind : drop size (words (primary_tokens p rest)) ≡ words rest = rw w₀ q.behind in
      let bytes : out' ≡ appended out (condition_bytes (primary_of p)) =
      o.bytes ∙ ap (appended out) (rw (w₀, w₁, w₂) q.bytes) in
      (ap (λ (k : ℕ). drop k t) o.behind ∙ words-on t _ i size here ∙ behind, appends _ bytes all pre h room)
