-- What the call that reads a typed query answers (request 6), in the words of the grammar alone and however it reads. That the call defined
-- in ReadText keeps it is proved (proofs/TextCalls). Assumes nothing.
use Rattle.std.specs.Prelude.{◌≡◌, List, ◌⊎◌, ℕ, ◌≤◌, ◌<◌, length, take}
use Rattle.tsparql.specs.Check.{refuse, Passes}
use Rattle.tsparql.specs.Rewrite.{Rewritten, wrote_into, wrote_nothing}
use Rattle.grammar.specs.Grammar.{Query, Derives, Underivable, Viable}
use Rattle.grammar.specs.Meaning.{meaning_bytes}

-- the most bytes of a text
abbrev pub text_limit : ℕ
text_limit = 4096

-- the first p bytes of s begin a text that has a derivation, and no more of them do
pub record LongestStart (s : List ℕ) (p : ℕ) : Type 0 where
  pub inside : p ≤ length s
  pub viable : Viable (take p s)
  pub longest : (k : ℕ) → p < k → k ≤ length s → Viable (take k s) → ⊥

-- the answer a for the text s and the output out
pub record Promise (s out : List ℕ) (a : Rewritten) : Type 0 where
  -- 11, a text over 4,096 bytes
  pub long : text_limit < length s → a ≡ wrote_nothing (refuse 11 text_limit) out
  -- 11, no derivation
  pub underived :
      length s ≤ text_limit → Underivable s → (p : ℕ) × LongestStart s p × (a ≡ wrote_nothing (refuse 11 p) out)
  -- 12, an output too short for the bytes of the meaning
  pub short :
      length s ≤ text_limit → (q : Query) → Derives q s → length out < length (meaning_bytes q)
      → a ≡ wrote_nothing (refuse 12 (length (meaning_bytes q))) out
  -- else these bytes at the front of the output
  pub derived :
      length s ≤ text_limit → (q : Query) → Derives q s → length (meaning_bytes q) ≤ length out → a ≡ wrote_into (meaning_bytes q) out
  -- no text without a derivation passes
  pub accepted : Passes a.refusal → (q : Query) × Derives q s
  -- every text has a derivation or has none
  pub either : ((q : Query) × Derives q s) ⊎ Underivable s
