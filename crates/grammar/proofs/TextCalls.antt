-- The call that reads a typed query, in the grammar's words: `read_text` keeps `Promise`, so every answer that is `read_text`'s does
-- (`text-calls`), and what was written is read back as the meaning (`text-read`). A text with a derivation is answered with the bytes of
-- its one meaning (`text-bytes`), for which 16,384 bytes always are room enough (`text-fits`). Assumes nothing.
use mathlib.Core.Path.{◌≡◌, refl, sym, ap, ◌∙◌, subst⁻¹}
use mathlib.Core.Bool.{Bool, true, false}
use mathlib.Core.List.{List}
use mathlib.Core.Option.{Option}
use mathlib.Core.Logic.{◌⊎◌, inl, inr}
use Prim.Native.Nat.{ℕ, ◌≤◌, ◌<◌}
use native.Mathlib.Omega.{arith}
use lib.Dec.{ltb}
use lib.Seq.{take-append_seam}
use lib.ListN.{length, take, drop}
use borrow.Author.Tests.{ltb-true, ltb-false, lt-ltb, le-ltb}
use Rattle.tsparql.specs.Query.{Node}
use Rattle.tsparql.specs.Writing.{node_bytes}
use Rattle.tsparql.specs.Reading.{got, read_query}
use Rattle.tsparql.specs.Check.{refuse, Passes}
use Rattle.tsparql.specs.Rewrite.{Rewritten, wrote_into, wrote_nothing}
use Rattle.grammar.specs.Grammar.{Query, Derives, Underivable}
use Rattle.grammar.specs.Meaning.{meaning, meaning_bytes}
use Rattle.grammar.specs.Promise.{text_limit, LongestStart, Promise}
use Rattle.grammar.specs.Automaton.{Outcome, accepted, fault, read}
use Rattle.grammar.specs.ReadText.{node_or, text_bytes, text_refusal, read_text}
use Rattle.grammar.proofs.Reading.{read-derives, derives-read, read-fault, derives-either, tokens-few}
use Rattle.grammar.proofs.Means.{text_node-derives}
use Rattle.grammar.proofs.Sizes.{meaning-size}
use Rattle.grammar.proofs.Formed.{meaning-read}

-- the bytes of a text with a derivation
pub text-bytes : (s : List ℕ) (q : Query) → Derives q s → text_bytes s ≡ meaning_bytes q
unfolding text_bytes meaning_bytes
text-bytes s q d = ap (λ (o : Option Node). node_bytes (node_or o)) (text_node-derives q s d)

-- an output of 16,384 bytes always does
pub text-fits : (s : List ℕ) (q : Query) → Derives q s → length s ≤ text_limit → length (meaning_bytes q) ≤ 16384
text-fits s q d h = omega (arith, meaning-size q, tokens-few q s d)

-- an answer with a refusal does not pass
not-passed : (out : List ℕ) (a : Rewritten) (n p : ℕ) → 0 < n → a ≡ wrote_nothing (refuse n p) out → Passes a.refusal → ⊥
not-passed out a n p l e h = let z : n ≡ 0 = sym (ap (λ (b : Rewritten). b.refusal.number) e) ∙ h in omega arith

-- ---- the cases of the answer

module _ (s out : List ℕ) where
  long_of : text_limit < length s → read_text s out ≡ wrote_nothing (refuse 11 text_limit) out
  unfolding read_text text_refusal
  long_of h = rw (lt-ltb text_limit (length s) h)

  underived-of : (o : Outcome) → read s ≡ o → length s ≤ text_limit → Underivable s
      → (p : ℕ) × LongestStart s p × (read_text s out ≡ wrote_nothing (refuse 11 p) out)
  unfolding read_text text_refusal
  underived-of (accepted ts) e h n = let r = derives-read s ts e in absurd (n r.0 r.2)
  underived-of (fault p) e h n = (p, read-fault s p e, rw (le-ltb text_limit (length s) h, e))

  short-of : length s ≤ text_limit → (q : Query) → Derives q s → length out < length (meaning_bytes q)
      → read_text s out ≡ wrote_nothing (refuse 12 (length (meaning_bytes q))) out
  unfolding read_text text_refusal
  short-of h q d l =
      let b = text-bytes s q d in
      rw (le-ltb text_limit (length s) h, read-derives q s d, b, lt-ltb (length out) (length (meaning_bytes q)) l)

  derived-of : length s ≤ text_limit → (q : Query) → Derives q s → length (meaning_bytes q) ≤ length out
      → read_text s out ≡ wrote_into (meaning_bytes q) out
  unfolding read_text text_refusal
  derived-of h q d l =
      let b = text-bytes s q d in
      rw (le-ltb text_limit (length s) h, read-derives q s d, b, le-ltb (length out) (length (meaning_bytes q)) l)

  accepted-of : ((q : Query) × Derives q s) ⊎ Underivable s → Passes (read_text s out).refusal → (q : Query) × Derives q s
  accepted-of (inl d) h = d
  accepted-of (inr n) h = split (ltb text_limit (length s)) refl
    where
      split : (b : Bool) → ltb text_limit (length s) ≡ b → (q : Query) × Derives q s
      split true e = absurd (not-passed out (read_text s out) 11 text_limit (omega arith) (long_of (ltb-true text_limit (length s) e)) h)
      split false e = let r = underived-of (read s) refl (ltb-false text_limit (length s) e) n in
          absurd (not-passed out (read_text s out) 11 r.0 (omega arith) r.2 h)

-- ---- the call

pub promise : (s out : List ℕ) → Promise s out (read_text s out)
promise s out =
    record {
      long = long_of s out;
      underived = underived-of s out (read s) refl;
      short = short-of s out;
      derived = derived-of s out;
      accepted = accepted-of s out (derives-either s);
      either = derives-either s;
    }

-- request 6 on the answers: a is what the call answered and left in the output
pub text-calls : (s out : List ℕ) (a : Rewritten) → a ≡ read_text s out → Promise s out a
text-calls s out a e = subst⁻¹ (Promise s out) e (promise s out)

-- ---- what was written

-- bytes at the front of the output
written_read : (out : List ℕ) (q : Query) (a : Rewritten) → a ≡ wrote_into (meaning_bytes q) out
    → read_query (take a.size a.output) ≡ got (meaning q) a.size
written_read out q a e = rw (e, take-append_seam (meaning_bytes q) (drop (length (meaning_bytes q)) out)) (meaning-read q)

-- an answer that passes has written them
passed-written : (s out : List ℕ) (a : Rewritten) → Promise s out a → Passes a.refusal → (q : Query) → Derives q s
    → a ≡ wrote_into (meaning_bytes q) out
passed-written s out a p h q d = split (ltb text_limit (length s)) refl (ltb (length out) (length (meaning_bytes q))) refl
  where
    split : (b : Bool) → ltb text_limit (length s) ≡ b → (c : Bool) → ltb (length out) (length (meaning_bytes q)) ≡ c
        → a ≡ wrote_into (meaning_bytes q) out
    split true e c f = absurd (not-passed out a 11 text_limit (omega arith) (p.long (ltb-true text_limit (length s) e)) h)
    split false e true f =
        let short = p.short (ltb-false text_limit (length s) e) q d (ltb-true (length out) (length (meaning_bytes q)) f) in
        absurd (not-passed out a 12 (length (meaning_bytes q)) (omega arith) short h)
    split false e false f = p.derived (ltb-false text_limit (length s) e) q d (ltb-false (length out) (length (meaning_bytes q)) f)

-- it is read back as the meaning of the text
pub text-read : (s out : List ℕ) (a : Rewritten) → a ≡ read_text s out → Passes a.refusal
    → (q : Query) × Derives q s × (read_query (take a.size a.output) ≡ got (meaning q) a.size)
text-read s out a e h =
    let p = text-calls s out a e in
    let r = p.accepted h in
    (r.0, r.1, written_read out r.0 a (passed-written s out a p h r.0 r.1))
