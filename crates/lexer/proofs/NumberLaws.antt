-- Variables, terms and bounds: the automaton stands before a number, which is then a token (`took_number`), by the first byte (`..-says`).
-- Assumes nothing.
use mathlib.Core.Path.{◌≡◌, refl, ap, ◌∙◌, subst}
use mathlib.Core.Bool.{Bool, true, false, ◌&&◌, not}
use mathlib.Core.List.{List, [], ◌∷◌, ◌++◌}
use mathlib.Core.Option as O
use Prim.Native.Nat.{ℕ, ◌+◌, ◌≤◌, ◌<◌}
use native.Mathlib.Omega.{arith}
use lib.ListN.{length, drop, get_or}
use Rattle.grammar.specs.Tokens.{is_word_number_or_variable}
use Rattle.grammar.specs.Automaton.{Symbol, vars, terms, is_bound, Kind, k_var, k_num, k_neg, token_of, gap, first, after, run}
use Rattle.grammar.proofs.Basics.{cond_cases}
use Rattle.words.specs.Words.{token_word}
use Rattle.scanner.specs.Scans.{numeral_from}
use Rattle.std.proofs.Common.{Option, Some, None}
use Rattle.scanner.specs.declared.Numeric.{Numeric}
use Rattle.scanner.proofs.NumberLaws.{Begun, Valued, numeral-says}
use Rattle.scanner.proofs.RunLaws.{move_at, same_at, stop-at}
use Rattle.lexer.specs.Symbols.{digits, packed}
use Rattle.lexer.specs.Rules.{follow_of, follows}
use Rattle.lexer.specs.NextToken.{number_token, number_at, when_allowed, variable_at, negative_at, positive_at}
use Rattle.lexer.proofs.Advances.{Advanced}
use Rattle.lexer.proofs.SymbolLaws.{vars-few, terms-few}
use Rattle.lexer.proofs.FirstByte.{var-none, var-some, minus-stop, minus-bound, digit-tight, digit-bound, digit-none, digit-term}

-- ---- a number as a token

-- the word of the number 0 of a kind
abbrev base : Kind → ℕ
base k_var = 256
base k_num = 2097152
base k_neg = 4194304

number_word : (k : Kind) (v : ℕ) → base k + v ≡ token_word (token_of k v)
number_word k_var v = refl
number_word k_num v = refl
number_word k_neg v = refl

number-tight : (k : Kind) (v : ℕ) → true ≡ is_word_number_or_variable (token_of k v)
number-tight k_var v = refl
number-tight k_num v = refl
number-tight k_neg v = refl

-- the automaton stands before a number, at `at` or behind
took_number :
    (s : List ℕ) (at from : ℕ) (a : Bool) (X : Symbol) (l u : ℕ) (k : Kind) (p : ℕ) (α : List Symbol) → at ≤ from → from ≤ length s → 9 ≤ u
    → ((σ : List Symbol) → run (drop at s) at (gap a (X ∷ σ)) ≡ run (drop from s) from (first l u k (α ++ σ))) → p ≡ packed α
    → length α ≤ 3 → Advanced s at a X (number_at l u (base k) p s from)
took_number s at from a X l u k p α h g q m e f =
    let d = numeral_from l u from (drop from s) in
    took d (numeral-says s from l u d g q refl)
  where
    took : (d : Option Numeric) → Begun s from l u d → Advanced s at a X (number_token (base k) p from d)
    took (Some n) b =
        let v = n.value in
        let next = n.next in
        let forward = b.forward in
        record {
          token = token_of k v;
          production = α;
          word = number_word k v;
          pushes = e;
          ends = number-tight k v;
          forward = omega arith;
          inside = b.inside;
          few = omega arith;
          runs = λ σ.
              m σ ∙ b.runs k (α ++ σ)
              ∙ ap (λ (z : Bool). after (token_of k v ∷ []) (run (drop next s) next (gap z (α ++ σ)))) (number-tight k v);
        }
    took None b = λ σ. m σ ∙ b.runs k (α ++ σ)

none-packed : 0 ≡ packed []
unfolding digits
none-packed = refl

-- ---- by the first byte

module _ (s : List ℕ) (at : ℕ) (a : Bool) (X : Symbol) (h : at < length s) where
  abbrev byte : ℕ
  byte = get_or s at 0

  pub variable-says : byte ≡ 63 → Advanced s at a X (variable_at X a s at)
  variable-says q = go (vars X) refl
    where
      go : (o : O.Option (List Symbol)) → vars X ≡ o
          → Advanced s at a X (when_allowed at (λ p. number_at 0 15 256 p s (at + 1)) (follow_of o))
      go O.none e = λ σ. stop-at s at (gap a (X ∷ σ)) h (var-none a X σ byte q e)
      go (O.some α) e =
          took_number s at (at + 1) a X 0 15 k_var (packed α) α (omega arith) (omega arith) (omega arith)
          (λ σ. move_at s at (gap a (X ∷ σ)) (first 0 15 k_var (α ++ σ)) h (var-some a X σ byte α q e)) refl (vars-few X α e)

  pub negative-says : byte ≡ 45 → Advanced s at a X (negative_at X a s at)
  negative-says q =
      cond_cases (Advanced s at a X) (is_bound X && not a)
      (λ e. took_number s at (at + 1) a X 1 1000 k_neg 0 [] (omega arith) (omega arith) (omega arith)
      (λ σ. move_at s at (gap a (X ∷ σ)) (first 1 1000 k_neg σ) h (minus-bound a X σ byte q e)) none-packed (omega arith))
      (λ e σ. stop-at s at (gap a (X ∷ σ)) h (minus-stop a X σ byte q e))

  module _ (l : 48 ≤ byte) (m : byte ≤ 57) where
    term-says : a ≡ false → is_bound X ≡ false
        → Advanced s at a X (when_allowed at (λ p. number_at 1 1048575 2097152 p s at) (follows X 48))
    term-says t b = go (terms X) refl
      where
        go : (o : O.Option (List Symbol)) → terms X ≡ o
            → Advanced s at a X (when_allowed at (λ p. number_at 1 1048575 2097152 p s at) (follow_of o))
        go O.none e = λ σ. stop-at s at (gap a (X ∷ σ)) h (digit-none a X σ byte l m t b e)
        go (O.some α) e =
            took_number s at at a X 1 1048575 k_num (packed α) α (omega arith) (omega arith) (omega arith)
            (λ σ. same_at s at (gap a (X ∷ σ)) (first 1 1048575 k_num (α ++ σ)) h (digit-term a X σ byte l m t α b e)) refl
            (terms-few X α e)

    pub positive-says : Advanced s at a X (positive_at X a s at)
    positive-says =
        cond_cases (Advanced s at a X) a (λ t σ. stop-at s at (gap a (X ∷ σ)) h (digit-tight a X σ byte l m t))
        (λ t. cond_cases (Advanced s at a X) (is_bound X)
        (λ b. took_number s at at a X 0 1000 k_num 0 [] (omega arith) (omega arith) (omega arith)
        (λ σ. same_at s at (gap a (X ∷ σ)) (first 0 1000 k_num σ) h (digit-bound a X σ byte l m t b)) none-packed (omega arith))
        (term-says t))

-- ---- the value

pub numeral-most :
    (s : List ℕ) (at l u : ℕ) (d : Option Numeric) → at ≤ length s → 9 ≤ u → d ≡ numeral_from l u at (drop at s) → (n : Numeric) → d ≡ Some n
    → n.value ≤ u
numeral-most s at l u d h q e n g =
    let b : Valued s at l u n.value n.next = subst (Begun s at l u) g (numeral-says s at l u d h q e) in
    b.most
