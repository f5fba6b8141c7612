-- What the reader answers, in the grammar's words: it accepts exactly the texts with a derivation, with the derivation's tokens
-- (`read-derives`, `derives-read`), and faults at the length of the longest start that some text with a derivation shares (`read-fault`).
-- That length is one (`longest-unique`), a text has one list of tokens (`tokens-unique`), and no more of them than bytes
-- (`tokens-few`). Assumes nothing.
use mathlib.Core.Path.{◌≡◌, refl, sym, ap, ◌∙◌, subst, subst⁻¹}
use mathlib.Core.Bool.{Bool, true, false}
use mathlib.Core.List.{List, [], ◌∷◌, ◌++◌, append_assoc}
use mathlib.Core.Logic.{◌⊎◌, inl, inr}
use Prim.Native.Nat.{ℕ, suc, ◌+◌, ◌-◌, ◌≤◌, ◌<◌}
use native.Mathlib.Omega.{arith}
use lib.ListN.{length, take, drop, length-append}
use lib.Seq.{take-add}
use lib.Dec.{ltb}
use borrow.Author.Tests.{ltb-true, ltb-false}
use Rattle.grammar.specs.Tokens.{Token, spelling, Written, done, space, token}
use Rattle.grammar.specs.Grammar.{Query, tokens, Derives, Underivable, Viable}
use Rattle.grammar.specs.Promise.{LongestStart}
use Rattle.grammar.specs.Automaton.{Symbol, s_lBrace, s_body, Outcome, accepted, fault, read, initial}
use Rattle.grammar.proofs.Accepts.{Step, Accepts, then, tokens-accepted}
use Rattle.grammar.proofs.Trees.{accepted-query}
use Rattle.grammar.proofs.Numerals.{Spells, spelling-spells}
use Rattle.grammar.proofs.Sound.{Sound, sound}
use Rattle.grammar.proofs.Complete.{complete, token-bytes}
use Rattle.grammar.proofs.Faults.{Fault, Stops, faults}

-- ---- accepted exactly if there is a derivation

-- a text with a derivation is accepted, with the derivation's tokens
pub read-derives : (q : Query) (s : List ℕ) → Derives q s → read s ≡ accepted (tokens q)
unfolding read
read-derives q s d = complete s 0 initial (tokens q) tt (tokens-accepted q, d)

abbrev Answered : List ℕ → Outcome → Type 0
Answered s (accepted ts) = (q : Query) × (tokens q ≡ ts) × Derives q s
Answered s (fault p) = Unit {0}

answered : (s : List ℕ) (o : Outcome) → Sound initial s o → Answered s o
answered s (accepted ts) r =
    let q = accepted-query r.0 in
    (q.0, q.1, subst⁻¹ (λ (l : List Token). Written false l s) q.1 r.1)
answered s (fault p) r = tt

-- what is accepted has a derivation, and the tokens are its
pub derives-read : (s : List ℕ) (ts : List Token) → read s ≡ accepted ts → (q : Query) × (tokens q ≡ ts) × Derives q s
unfolding read
derives-read s ts e = subst (Answered s) e (answered s (read s) (sound s 0 initial tt))

fault≢accepted : {p : ℕ} {ts : List Token} → fault p ≡ accepted ts → ⊥
fault≢accepted e = let z : ◌≡◌ {A = ℕ} 0 1 = cc in omega arith

pub fault-underivable : (s : List ℕ) (p : ℕ) → read s ≡ fault p → Underivable s
fault-underivable s p e q d = fault≢accepted (sym e ∙ read-derives q s d)

accepted-injective : {ts us : List Token} → accepted ts ≡ accepted us → ts ≡ us
accepted-injective e = cc

-- a text has one list of tokens
pub tokens-unique : (p q : Query) (s : List ℕ) → Derives p s → Derives q s → tokens p ≡ tokens q
tokens-unique p q s x y = accepted-injective (sym (read-derives p s x) ∙ read-derives q s y)

-- every text has a derivation or has none
pub derives-either : (s : List ℕ) → ((q : Query) × Derives q s) ⊎ Underivable s
derives-either s = go (read s) refl
  where
    go : (o : Outcome) → read s ≡ o → ((q : Query) × Derives q s) ⊎ Underivable s
    go (accepted ts) e = let r = derives-read s ts e in inl (r.0, r.2)
    go (fault p) e = inr (fault-underivable s p e)

-- ---- the place is the longest start

-- a start of what begins a text with a derivation begins one too
viable-shorter : (s : List ℕ) (j k : ℕ) → j ≤ k → Viable (take k s) → Viable (take j s)
viable-shorter s j k h v =
    let sum : k ≡ j + (k - j) = omega arith in (
      v.0,
      take (k - j) (drop j s) ++ v.1,
      subst (Written false (tokens v.0))
          (ap (λ (n : ℕ). take n s ++ v.1) sum ∙ ap (λ (l : List ℕ). l ++ v.1) (take-add j (k - j) s)
          ∙ append_assoc (take j s) (take (k - j) (drop j s)) v.1)
          v.2,
    )

viable-of : (p r : List ℕ) (ts : List Token) → Accepts (s_lBrace ∷ s_body ∷ []) ts → Written false ts (p ++ r) → Viable p
viable-of p r ts a w =
    let q = accepted-query a in
    (q.0, r, subst⁻¹ (λ (l : List Token). Written false l (p ++ r)) q.1 w)

longest-of : (s : List ℕ) (p : ℕ) → Stops initial s 0 p → LongestStart s p
longest-of s p h =
    let e : h.count ≡ p = let i = h.place in omega arith in
    record {
      inside = subst (λ (k : ℕ). k ≤ length s) e h.inside;
      viable = subst (λ (k : ℕ). Viable (take k s)) e
          (viable-of (take h.count s) h.goes_on.1 h.goes_on.0 h.goes_on.2.0 h.goes_on.2.1);
      longest = λ k l i v.
          let c : h.count < length s = omega arith in
          let w = viable-shorter s (suc h.count) k (omega arith) v in
          h.no_further c (tokens w.0) w.1 (tokens-accepted w.0, w.2);
    }

abbrev Faulted : List ℕ → Outcome → Type 0
Faulted s (accepted ts) = Unit {0}
Faulted s (fault p) = LongestStart s p

faulted : (s : List ℕ) (o : Outcome) → Fault initial s 0 o → Faulted s o
faulted s (accepted ts) h = tt
faulted s (fault p) h = longest-of s p h

pub read-fault : (s : List ℕ) (p : ℕ) → read s ≡ fault p → LongestStart s p
unfolding read
read-fault s p e = subst (Faulted s) e (faulted s (read s) (faults s 0 initial tt))

-- there is one longest start
pub longest-unique : (s : List ℕ) (j k : ℕ) → LongestStart s j → LongestStart s k → j ≡ k
longest-unique s j k x y = split (ltb j k) refl (ltb k j) refl
  where
    split : (b : Bool) → ltb j k ≡ b → (c : Bool) → ltb k j ≡ c → j ≡ k
    split true e c f = absurd (x.longest k (ltb-true j k e) y.inside y.viable)
    split false e true f = absurd (y.longest j (ltb-true k j f) x.inside x.viable)
    split false e false f = omega (arith, ltb-false j k e, ltb-false k j f)

-- ---- how many tokens

-- a token that may come has a byte at least
token-size : {X : Symbol} {t : Token} {α : List Symbol} (u : List ℕ) → Step X t α → Spells t u → 1 ≤ length u
token-size [] st sp = token-bytes [] [] st sp refl
token-size (b ∷ u) st sp = omega arith

written-few : {a : Bool} {σ : List Symbol} {ts : List Token} {s : List ℕ} → Accepts σ ts → Written a ts s → length ts ≤ length s
written-few x done = omega arith
written-few x (space b e w) = let h = written-few x w in omega arith
written-few (then st y) (token t r h q w) =
    let i = written-few y w in
    omega (arith, token-size (spelling t) st (spelling-spells t), ap length q, length-append (spelling t) r)

-- no more tokens than bytes
pub tokens-few : (q : Query) (s : List ℕ) → Derives q s → length (tokens q) ≤ length s
tokens-few q s d = written-few (tokens-accepted q) d
