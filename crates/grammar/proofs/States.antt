-- What a state of the machine still stands for (`Rest`): tokens that its stack accepts, and bytes that write them. Groups: what a state
-- stands for; digits. Assumes nothing.
use mathlib.Core.Path.{◌≡◌, refl, ap, ◌∙◌}
use mathlib.Core.Bool.{Bool, true, false, ◌&&◌}
use mathlib.Core.List.{List, [], ◌∷◌, ◌++◌}
use Prim.Native.Nat.{ℕ, ◌≤◌}
use native.Mathlib.Nat.{le_refl}
use lib.Dec.{leb}
use borrow.Author.Tests.{leb-true, le-leb}
use Rattle.tsparql.proofs.ListLaws.{and_left, and_right}
use Rattle.grammar.specs.Tokens.{Token, is_word_or_number, is_word_number_or_variable}
use Rattle.grammar.specs.Tokens.{Written, token}
use Rattle.grammar.specs.Automaton.{Symbol, Kind, token_of}
use Rattle.grammar.specs.Automaton.{State, gap, in_mark, first, in_number, digit}
use Rattle.grammar.proofs.Accepts.{Accepts}
use Rattle.grammar.proofs.Numerals.{IsDigit, Digits, Numeral}
use Rattle.grammar.proofs.Numerals.{Spells, spells-spelling}
use Rattle.grammar.proofs.Numerals as N

-- ---- what a state stands for

pub record InMark (w : List ℕ) (t : Token) (σ : List Symbol) (ts : List Token) (s : List ℕ) : Type 0 where
  pub tail : List ℕ
  pub tokens : List Token
  pub bytes : s ≡ w ++ tail
  pub same : ts ≡ t ∷ tokens
  pub accepts : Accepts σ tokens
  pub written : Written (is_word_number_or_variable t) tokens tail

-- Digs says which digits give which value
pub record InNumber (l u : ℕ) (Digs : List ℕ → ℕ → Type 0) (k : Kind) (σ : List Symbol) (ts : List Token) (s : List ℕ) : Type 0 where
  pub value : ℕ
  pub digits : List ℕ
  pub tail : List ℕ
  pub tokens : List Token
  pub bytes : s ≡ digits ++ tail
  pub same : ts ≡ token_of k value ∷ tokens
  pub reads : Digs digits value
  pub least : l ≤ value
  pub most : value ≤ u
  pub accepts : Accepts σ tokens
  pub written : Written true tokens tail

abbrev pub Rest : State → List Token → List ℕ → Type 0
Rest (gap a σ) ts s = Accepts σ ts × Written a ts s
Rest (in_mark c w t σ) ts s = InMark (c ∷ w) t σ ts s
Rest (first l u k σ) ts s = InNumber l u (λ w n. Numeral n w) k σ ts s
Rest (in_number u v k σ) ts s = InNumber v u (λ w n. Digits v w n) k σ ts s

-- what holds of every state that is reached
abbrev pub Good : State → Type 0
Good (gap a σ) = Unit {0}
Good (in_mark c w t σ) = Unit {0}
Good (first l u k σ) = (l ≤ 1) × (9 ≤ u)
Good (in_number u v k σ) = v ≤ u

-- a number that has just ended, before what follows
pub ended : (u v : ℕ) (k : Kind) (σ : List Symbol) (ts : List Token) (s : List ℕ) → v ≤ u → Accepts σ ts → Written true ts s
    → Rest (in_number u v k σ) (token_of k v ∷ ts) s
ended u v k σ ts s h x y =
    record {
      value = v;
      digits = [];
      tail = s;
      tokens = ts;
      bytes = refl;
      same = refl;
      reads = N.none;
      least = le_refl v;
      most = h;
      accepts = x;
      written = y;
    }

-- a token by its bytes, digit by digit
pub spelled : {a : Bool} {ts : List Token} {s : List ℕ} (t : Token) (u r : List ℕ) → (a && is_word_or_number t) ≡ false → Spells t u
    → s ≡ u ++ r → Written (is_word_number_or_variable t) ts r → Written a (t ∷ ts) s
spelled t u r h sp q w = token t r h (q ∙ ap (λ (l : List ℕ). l ++ r) (spells-spelling sp)) w

-- ---- digits

pub digit-true : (b : ℕ) → digit b ≡ true → IsDigit b
digit-true b e =
    record { least = leb-true 48 b (and_left (leb 48 b) (leb b 57) e); most = leb-true b 57 (and_right (leb 48 b) (leb b 57) e) }

pub is_digit : (b : ℕ) → IsDigit b → digit b ≡ true
is_digit b h = rw (le-leb 48 b h.least, le-leb b 57 h.most)
