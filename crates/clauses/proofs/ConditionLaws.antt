-- The loop of `condition`: where a primary or the closing parenthesis is to come, the first word tells which (`view`), and what is written
-- leads to the next such state. Its invariant is `Conditioning`; each `conditioning-..` is a way into a turn or out of it. Assumes nothing.
use mathlib.Core.Path.{◌≡◌, refl, sym, ap, ◌∙◌, subst}
use mathlib.Core.Bool.{cond}
use mathlib.Core.List.{List, [], ◌∷◌, ◌++◌, append_assoc, append-nil}
use mathlib.Core.Logic.{inl, inr}
use mathlib.Core.Option.{none}
use Prim.Native.Nat.{ℕ, suc, ◌+◌, ◌≤◌, ◌<◌}
use native.Mathlib.Omega.{arith}
use native.Mathlib.Nat.{le_refl, add-zero}
use lib.Dec.{eqb}
use lib.ListN.{length, drop, get_or, length-append}
use borrow.Author.Tests.{ne_eqb}
use Rattle.tsparql.specs.Strikes.{ascii}
use Rattle.tsparql.specs.Query.{Condition}
use Rattle.tsparql.specs.Writing.{condition_bytes}
use Rattle.grammar.specs.Tokens.{Token, mark, RPAREN}
use Rattle.grammar.specs.Grammar.{Disjunction, disjunction_tokens, Variable, Primary, negatable, equal, less}
use Rattle.grammar.specs.Grammar.{Negatable, bound, not, parens}
use Rattle.grammar.specs.Meaning.{disjunction_of, primary_of}
use Rattle.blocks.specs.Buffers.{Filled}
use Rattle.blocks.specs.Blocks.{Holds, Appends}
use Rattle.words.specs.Words.{words}
use Rattle.clauses.specs.Tails.{tail_tokens, and_with, or_bytes, and_bytes, negations, not_bytes}
use Rattle.clauses.specs.Clauses.{Operand, Conditions, Expects, Ended, State, Wrote, Connects}
use Rattle.clauses.specs.declared.Clause.{Clause}
use Rattle.words.proofs.WordLaws.{word_first, words-on, word-inside}
use Rattle.clauses.proofs.ClauseLaws.{operand-forward, operand-writes}
use Rattle.clauses.proofs.TailLaws.{disjunction-tail, and_bytes_lem, not_more, not-bytes, ends-least}

-- ---- the first word

-- what it begins
data Kind : Type 0 where
  k_close k_not k_parens k_operand : Kind

abbrev kind_of : ℕ → Kind
kind_of w = cond (eqb w 41) k_close (cond (eqb w 33) k_not (cond (eqb w 40) k_parens k_operand))

kind-variable : (v : Variable) → kind_of (256 + v.name) ≡ k_operand
kind-variable v =
    let w = 256 + v.name in
    rw (ne_eqb w 41 (λ e. omega arith), ne_eqb w 33 (λ e. omega arith), ne_eqb w 40 (λ e. omega arith))

module _ (t : List ℕ) (rest : List Token) (final : Condition) (all : ℕ) (pre : List ℕ) (out : Filled) (s : Clause) where
  -- a state, by what begins there
  data View : Kind → Type 0 where
    at_close : Ended t rest final all pre out s → View k_close
    at_not : (x : Expects t rest final all pre out s) (n : Negatable) → x.first ≡ negatable (not n) → View k_not
    at_parens : (x : Expects t rest final all pre out s) (d : Disjunction) → x.first ≡ negatable (parens d) → View k_parens
    at_operand : Expects t rest final all pre out s → View k_operand

  -- the word there, and what it tells
  record Viewed : Type 0 where
    first : ℕ
    later : List ℕ
    kind : Kind
    written : drop s.next t ≡ first ∷ later
    tells : kind_of first ≡ kind
    view : View kind

  viewed : State t rest final all pre out s → Viewed
  unfolding ascii
  viewed (inr x) = record { first = 41; later = words rest; kind = k_close; written = x.written; tells = refl; view = at_close x }
  viewed (inl x) = go x.first refl
    where
      go : (p : Primary) → x.first ≡ p → Viewed
      go (negatable (bound v)) e =
          record { first = _; later = _; kind = k_operand; written = rw e at x.written; tells = refl; view = at_operand x }
      go (negatable (not n)) e =
          record { first = _; later = _; kind = k_not; written = rw e at x.written; tells = refl; view = at_not x n e }
      go (negatable (parens d)) e =
          record { first = _; later = _; kind = k_parens; written = rw e at x.written; tells = refl; view = at_parens x d e }
      go (equal v y) e =
          record { first = _; later = _; kind = k_operand; written = rw e at x.written; tells = kind-variable v; view = at_operand x }
      go (less v y) e =
          record { first = _; later = _; kind = k_operand; written = rw e at x.written; tells = kind-variable v; view = at_operand x }

  state-inside : State t rest final all pre out s → s.next < length t
  state-inside x = let v = viewed x in word-inside t v.later s.next v.first v.written

  view : (κ : Kind) → kind_of (get_or t s.next 0) ≡ κ → State t rest final all pre out s → View κ
  view κ e x =
      let v = viewed x in
      subst View (sym v.tells ∙ ap kind_of (sym (word_first t v.later s.next v.first v.written)) ∙ e) v.view

-- ---- a primary

module _ {t : List ℕ} {rest : List Token} {final : Condition} {all : ℕ} {pre : List ℕ} {out : Filled} {s : Clause} (x : Expects t rest final all pre out s) where
  -- the bytes so far
  abbrev opened : List ℕ
  opened = pre ++ (or_bytes x.before ++ (and_bytes x.prior ++ not_bytes x.nots))

  -- the conjunction so far, with the primary
  abbrev joined : Condition
  joined = and_with x.prior (negations x.nots (primary_of x.first))

  -- the bytes with it
  opened-bytes : opened ++ condition_bytes (primary_of x.first) ≡ pre ++ (or_bytes x.before ++ condition_bytes joined)
  opened-bytes = simp (append_assoc, not-bytes, and_bytes_lem)

  -- there is room for it
  expects-room : out.end + length (condition_bytes (primary_of x.first)) ≤ all
  expects-room =
      let or = or_bytes x.before in
      let bytes = condition_bytes joined in
      let means = ap (λ (c : Condition). length (condition_bytes c)) x.means in
      let least = ends-least x.later x.before joined in
      omega (
        arith,
        x.holds.size,
        x.room,
        length-append opened (condition_bytes (primary_of x.first)),
        ap length opened-bytes,
        length-append pre (or ++ bytes),
        length-append or bytes,
      )

  -- where it was written, what connects it is to come
  expects-wrote :
      (out' : Filled) (next : ℕ)
      → (drop next t ≡ words (tail_tokens x.later (mark RPAREN ∷ rest)))
      × Holds out' (opened ++ condition_bytes (primary_of x.first)) all
      → Wrote t rest final all pre out' s.and next
  expects-wrote out' next w =
      record {
        before = x.before;
        conjunct = joined;
        later = x.later;
        written = w.0;
        means = x.means;
        holds = rw opened-bytes at w.1;
        place = x.place;
        room = x.room;
      }

-- ---- what is written, by the view

module _ (t : List ℕ) (rest : List Token) (final : Condition) (all : ℕ) (pre : List ℕ) (out out' : Filled) (s : Clause) where
  state-not :
      Appends out out' (64 ∷ []) → View t rest final all pre out s k_not
      → State t rest final all pre out' (record { next = s.next + 1; and = s.and })
  unfolding primary_of condition_bytes
  state-not a (at_not x y z) =
      let fits : out.end + length (condition_bytes (primary_of (negatable (not y)))) ≤ all = rw z at (expects-room x) in
      let put = a all (opened x) x.holds (omega arith) in
      inl (record {
        before = x.before;
        prior = x.prior;
        nots = suc x.nots;
        first = negatable y;
        later = x.later;
        written = words-on t _ s.next 1 (rw z at x.written);
        means = rw z at x.means;
        holds = simp (append_assoc, not_more) at put;
        place = x.place;
        room = omega (arith, x.room);
      })

  state-parens :
      (next : ℕ) → Conditions t (s.next + 1) out out' next → View t rest final all pre out s k_parens
      → Wrote t rest final all pre out' s.and next
  unfolding primary_of
  state-parens next a (at_parens x d z) =
      let room : out.end + length (condition_bytes (primary_of (negatable (parens d)))) ≤ all = rw z at (expects-room x) in
      let later = tail_tokens x.later (mark RPAREN ∷ rest) in
      let w = a all d later (opened x) (words-on t _ s.next 1 (rw z at x.written)) x.holds room in
      expects-wrote x out' next (w.0, rw z w.1)

  state-operand :
      (next : ℕ) → (get_or t s.next 0 ≡ 33 → ⊥) → (get_or t s.next 0 ≡ 40 → ⊥) → Operand t s.next out out' next
      → View t rest final all pre out s k_operand → Wrote t rest final all pre out' s.and next
  state-operand next e g a (at_operand x) =
      expects-wrote x out' next
      (operand-writes a all x.first (tail_tokens x.later (mark RPAREN ∷ rest)) (opened x) x.written e g x.holds (expects-room x))

-- ---- the invariant

-- whatever condition begins at `at`, the clause s is a state of writing it
pub record Conditioning (t : List ℕ) (at : ℕ) (out out' : Filled) (s : Clause) : Type 0 where
  pub forward : at ≤ s.next
  pub stands :
      (all : ℕ) (d : Disjunction) (rest : List Token) (pre : List ℕ) → drop at t ≡ words (disjunction_tokens d (mark RPAREN ∷ rest))
      → Holds out pre all → out.end + length (condition_bytes (disjunction_of d)) ≤ all → State t rest (disjunction_of d) all pre out' s

pub conditioning-first : (t : List ℕ) (out : Filled) (at from : ℕ) → from ≡ out.end → Conditioning t at out out (record { next = at; and = from })
conditioning-first t out at from start =
    record {
      forward = le_refl at;
      stands = λ all d rest pre e h room.
          let v = disjunction-tail d in
          inl (record {
            before = none;
            prior = none;
            nots = 0;
            first = v.first;
            later = v.later;
            written = e ∙ ap words (v.written (mark RPAREN ∷ rest));
            means = v.means;
            holds = rw (append-nil pre) h;
            place = start ∙ h.size ∙ sym (add-zero (length pre));
            room = omega (arith, h.size);
          });
    }

module _ {t : List ℕ} {out out₁ : Filled} {at : ℕ} {s : Clause} (c : Conditioning t at out out₁ s) where
  pub conditioning-none : (next : ℕ) → length t ≤ s.next → Conditions t at out out₁ next
  conditioning-none next l all d rest pre e h room =
      absurd (omega (arith, state-inside t rest (disjunction_of d) all pre out₁ s (c.stands all d rest pre e h room)))

  pub conditioning-end : get_or t s.next 0 ≡ 41 → Conditions t at out out₁ (s.next + 1)
  conditioning-end w all d rest pre e h room = go (view t rest _ all pre out₁ s k_close (ap kind_of w) (c.stands all d rest pre e h room))
    where
      go : View t rest (disjunction_of d) all pre out₁ s k_close
          → (drop (s.next + 1) t ≡ words rest) × Holds out₁ (pre ++ condition_bytes (disjunction_of d)) all
      go (at_close x) = (words-on t _ s.next 1 x.written, x.holds)

  -- one turn
  conditioning-on :
      (out₂ : Filled) (r : Clause) → s.next ≤ r.next
      → ((all : ℕ) (rest : List Token) (final : Condition) (pre : List ℕ) → out.end ≡ length pre → State t rest final all pre out₁ s
      → State t rest final all pre out₂ r)
      → Conditioning t at out out₂ r
  conditioning-on out₂ r onward step =
      record {
        forward = omega (arith, c.forward);
        stands = λ all d rest pre e h room. step all rest (disjunction_of d) pre h.size (c.stands all d rest pre e h room);
      }

  pub conditioning-not :
      (out₂ : Filled) → get_or t s.next 0 ≡ 33 → Appends out₁ out₂ (64 ∷ [])
      → Conditioning t at out out₂ (record { next = s.next + 1; and = s.and })
  conditioning-not out₂ w a =
      conditioning-on out₂ _ (omega arith) λ all rest final pre f x.
      state-not t rest final all pre out₁ out₂ s a (view t rest final all pre out₁ s k_not (ap kind_of w) x)

  module _ (out₂ out₃ : Filled) (from next : ℕ) (r : Clause) (start : from ≡ out.end)
      (q : (next ≤ r.next) × Connects t from out₂ out₃ s.and next r) where
    pub conditioning-parens :
        get_or t s.next 0 ≡ 40 → (s.next + 1 ≤ next) × Conditions t (s.next + 1) out₁ out₂ next
        → Conditioning t at out out₃ r
    conditioning-parens w a =
        conditioning-on out₃ r (omega (arith, a.0, q.0)) λ all rest final pre f x.
        q.1 all rest final pre (start ∙ f)
        (state-parens t rest final all pre out₁ out₂ s next a.1 (view t rest final all pre out₁ s k_parens (ap kind_of w) x))

    pub conditioning-operand :
        (get_or t s.next 0 ≡ 33 → ⊥) → (get_or t s.next 0 ≡ 40 → ⊥) → (get_or t s.next 0 ≡ 41 → ⊥)
        → Operand t s.next out₁ out₂ next → Conditioning t at out out₃ r
    conditioning-operand e g h a =
        let w = get_or t s.next 0 in
        let other : kind_of w ≡ k_operand = rw (ne_eqb w 41 h, ne_eqb w 33 e, ne_eqb w 40 g) in
        conditioning-on out₃ r (omega (arith, operand-forward a, q.0)) λ all rest final pre f x.
        q.1 all rest final pre (start ∙ f)
        (state-operand t rest final all pre out₁ out₂ s next e g a (view t rest final all pre out₁ s k_operand other x))
