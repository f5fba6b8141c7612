-- The call by what the scan answers: a text that is too long (`call_long`), one with a fault (`call-fault`), and one whose tokens have
-- words, which were written (`call-tokens`). Assumes nothing.
use mathlib.Core.Path.{◌≡◌, refl, sym, ap, ◌∙◌}
use mathlib.Core.Bool.{Bool, true, false}
use mathlib.Core.List.{List}
use Prim.Native.Nat.{ℕ, ◌≤◌, ◌<◌}
use lib.Dec.{ltb}
use lib.ListN.{length, take}
use borrow.Author.Tests.{ltb-true, ltb-false, le-ltb}
use Rattle.grammar.specs.Grammar.{Query, Derives}
use Rattle.grammar.specs.Meaning.{meaning_bytes}
use Rattle.grammar.specs.Promise.{text_limit}
use Rattle.grammar.specs.ReadText.{text_refusal, read_text}
use Rattle.grammar.proofs.Reading.{derives-read}
use Rattle.grammar.proofs.TextCalls.{promise}
use Rattle.words.specs.Words.{words}
use Rattle.lexer.specs.Steps.{Scans}
use Rattle.refusals.specs.declared.Fault.{Fault}
use Rattle.refusals.specs.Refusals.{written_in}
use Rattle.reading.specs.Answers.{delivered, Writes}
use Rattle.std.specs.Prelude.{Result, Ok, Err}
use Rattle.refusals.specs.declared.Refused.{Refused}
use Rattle.refusals.specs.declared.Refused.TheVariants as R

pub call_long : (s out : List ℕ) → text_limit < length s → written_in (Err (R.TextFault 4096)) out ≡ read_text s out
call_long s out h = sym ((promise s out).long h)

pub call-fault : (s out ws : List ℕ) (f : Fault) → length s ≤ text_limit → Scans s ws (Err f)
    → written_in (Err (R.TextFault f.0)) out ≡ read_text s out
unfolding read_text text_refusal
call-fault s out ws f h e = sym (rw (le-ltb text_limit (length s) h, e))

-- a text with a derivation is answered by its meaning's bytes
call-derived : (s out : List ℕ) (q : Query) → length s ≤ text_limit → Derives q s → read_text s out ≡ delivered (meaning_bytes q) out
call-derived s out q h d = go (ltb (length out) (length (meaning_bytes q))) refl
  where
    go : (b : Bool) → ltb (length out) (length (meaning_bytes q)) ≡ b → read_text s out ≡ delivered (meaning_bytes q) out
    go true e = (promise s out).short h q d (ltb-true (length out) (length (meaning_bytes q)) e) ∙ sym (rw e)
    go false e = (promise s out).derived h q d (ltb-false (length out) (length (meaning_bytes q)) e) ∙ sym (rw e)

pub call-tokens :
    (s out out' ws : List ℕ) (n : ℕ) (r : Result ℕ Refused) → length s ≤ text_limit → Scans s ws (Ok n)
    → Writes (take n ws) out out' r → written_in r out' ≡ read_text s out
call-tokens s out out' ws n r h t writes =
    let d = derives-read s t.0 t.1 in
    writes d.0 (t.2 ∙ ap words (sym d.1)) ∙ sym (call-derived s out d.0 h d.2)

-- what `read_text` cites
pub ruleset long_texts = (call_long)
