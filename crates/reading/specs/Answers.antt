-- What the functions promise that write a typed query. Assumes nothing.
use Rattle.std.specs.Prelude.{◌≡◌, cond, List, ℕ, ◌*◌, ◌≤◌, ltb, length, Result}
use Rattle.tsparql.specs.Check.{refuse}
use Rattle.tsparql.specs.Rewrite.{Rewritten, wrote_into, wrote_nothing}
use Rattle.grammar.specs.Grammar.{Query, tokens}
use Rattle.grammar.specs.Meaning.{meaning_bytes}
use Rattle.blocks.specs.Buffers.{Filled}
use Rattle.blocks.specs.Blocks.{Holds}
use Rattle.words.specs.Words.{words}
use Rattle.refusals.specs.declared.Refused.{Refused}
use Rattle.refusals.specs.Refusals.{written_in}

-- bytes into an output: 12 where it is too short
abbrev pub delivered : List ℕ → List ℕ → Rewritten
delivered bs out = cond (ltb (length out) (length bs)) (wrote_nothing (refuse 12 (length bs)) out) (wrote_into bs out)

-- the buffer then holds the bytes of the query whose words are t, up to its end, if it has four for each of them
abbrev pub Renders : List ℕ → Filled → Filled → Type 0
Renders t out out' = (q : Query) → t ≡ words (tokens q) → 4 * length t ≤ length out.bytes → Holds out' (meaning_bytes q) (length out.bytes)

-- they are in the output
abbrev pub Writes : List ℕ → List ℕ → List ℕ → Result ℕ Refused → Type 0
Writes t out out' r = (q : Query) → t ≡ words (tokens q) → written_in r out' ≡ delivered (meaning_bytes q) out
