-- What follows a primary: each law is one of the answers of `connect`. Assumes nothing.
use mathlib.Core.Path.{◌≡◌, refl, sym, ap, ◌∙◌}
use mathlib.Core.List.{List, ◌∷◌, ◌++◌, append_assoc, append-nil}
use mathlib.Core.Logic.{inl, inr}
use mathlib.Core.Option.{none, some}
use Prim.Native.Nat.{ℕ, ◌+◌, ◌≤◌, ◌<◌}
use native.Mathlib.Omega.{arith}
use lib.ListN.{length, drop, get_or, length-append}
use Rattle.tsparql.specs.Strikes.{ascii}
use Rattle.tsparql.specs.Query.{Condition}
use Rattle.tsparql.specs.Writing.{condition_bytes}
use Rattle.grammar.specs.Tokens.{Token, mark, RPAREN}
use Rattle.blocks.specs.Buffers.{Filled}
use Rattle.blocks.specs.Blocks.{Holds, Puts}
use Rattle.words.specs.Words.{words}
use Rattle.clauses.specs.Tails.{Tail, close, and_then, or_then, tail_tokens, or_with, or_bytes}
use Rattle.clauses.specs.Clauses.{State, Wrote, Connects}
use Rattle.words.proofs.WordLaws.{word_first, words-on, word-inside}
use Rattle.clauses.proofs.TailLaws.{or_bytes_lem, operators, ends-least}

-- the first word of a tail and a parenthesis
abbrev tail_word : Tail → ℕ
tail_word close = 41
tail_word (and_then p r) = 38
tail_word (or_then p r) = 124

tail-first :
    (t : List ℕ) (i : ℕ) (r : Tail) (rest : List Token) → drop i t ≡ words (tail_tokens r (mark RPAREN ∷ rest))
    → (get_or t i 0 ≡ tail_word r) × (i < length t)
unfolding ascii
tail-first t i close rest e = (word_first t _ i _ e, word-inside t _ i _ e)
tail-first t i (and_then p r) rest e = (word_first t _ i _ e, word-inside t _ i _ e)
tail-first t i (or_then p r) rest e = (word_first t _ i _ e, word-inside t _ i _ e)

module _ {t : List ℕ} {rest : List Token} {final : Condition} {all : ℕ} {pre : List ℕ} {out : Filled} {and next : ℕ}
    (w : Wrote t rest final all pre out and next) where
  -- the word behind the primary
  wrote-next : (r : Tail) → w.later ≡ r → get_or t next 0 ≡ tail_word r
  wrote-next r z = (tail-first t next r rest (rw z at w.written)).0

  -- there is room for a byte for each operator to come
  wrote-room : out.end + operators w.later ≤ all
  wrote-room =
      let or = or_bytes w.before in
      let bytes = condition_bytes w.conjunct in
      let means = ap (λ (c : Condition). length (condition_bytes c)) w.means in
      let least = ends-least w.later w.before w.conjunct in
      omega (arith, w.holds.size, w.room, length-append pre (or ++ bytes), length-append or bytes)

module _ (t : List ℕ) (out out' : Filled) (from and next : ℕ) where
  pub connect-and :
      get_or t next 0 ≡ 38 → Puts out out' and 80 → Connects t from out out' and next (record { next = next + 1; and = and })
  connect-and e a all rest final pre f w = go w.later refl
    where
      go : (r : Tail) → w.later ≡ r → State t rest final all pre out' (record { next = next + 1; and = and })
      go close z = absurd (omega (arith, wrote-next w close z))
      go (or_then p r) z = absurd (omega (arith, wrote-next w (or_then p r) z))
      go (and_then p r) z =
          let or = or_bytes w.before in
          let held : Holds out ((pre ++ or) ++ condition_bytes w.conjunct) all = rw append_assoc w.holds in
          let put = a all (pre ++ or) (condition_bytes w.conjunct) (length-append pre or ∙ sym w.place) held
          (omega (arith, wrote-room w, ap operators z)) in
          inl (record {
            before = w.before;
            prior = some w.conjunct;
            nots = 0;
            first = p;
            later = r;
            written = words-on t _ next 1 (rw z at w.written);
            means = rw z at w.means;
            holds = rw append-nil (rw append_assoc at put);
            place = w.place;
            room = omega (arith, w.room);
          })

  pub connect-or :
      get_or t next 0 ≡ 124 → Puts out out' from 96 → (and' : ℕ) → and' ≡ out'.end
      → Connects t from out out' and next (record { next = next + 1; and = and' })
  connect-or e a and' at_end all rest final pre f w = go w.later refl
    where
      go : (r : Tail) → w.later ≡ r → State t rest final all pre out' (record { next = next + 1; and = and' })
      go close z = absurd (omega (arith, wrote-next w close z))
      go (and_then p r) z = absurd (omega (arith, wrote-next w (and_then p r) z))
      go (or_then p r) z =
          let d = or_with w.before w.conjunct in
          let put = a all pre (condition_bytes d) (sym f) (rw or_bytes_lem at w.holds) (omega (arith, wrote-room w, ap operators z)) in
          inl (record {
            before = some d;
            prior = none;
            nots = 0;
            first = p;
            later = r;
            written = words-on t _ next 1 (rw z at w.written);
            means = rw z at w.means;
            holds = rw (append-nil (96 ∷ condition_bytes d)) put;
            place = at_end ∙ put.size ∙ length-append pre (96 ∷ condition_bytes d);
            room = omega (arith, w.room);
          })

pub connect-end :
    (t : List ℕ) (out : Filled) (from and next : ℕ) → (get_or t next 0 ≡ 38 → ⊥) → (get_or t next 0 ≡ 124 → ⊥)
    → Connects t from out out and next (record { next = next; and = and })
unfolding ascii
connect-end t out from and next e g all rest final pre f w = go w.later refl
  where
    go : (r : Tail) → w.later ≡ r → State t rest final all pre out (record { next = next; and = and })
    go close z = inr (record { written = rw z at w.written; holds = rw (or_bytes_lem, rw z at w.means) at w.holds })
    go (and_then p r) z = absurd (e (wrote-next w (and_then p r) z))
    go (or_then p r) z = absurd (g (wrote-next w (or_then p r) z))
