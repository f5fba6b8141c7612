-- A buffer keeps the bytes that were lent to it: over no change, and over one change and then another. Assumes nothing.
use mathlib.Core.Path.{refl, ◌∙◌}
use Rattle.blocks.specs.declared.Buffer.{Buffer}
use Rattle.blocks.specs.Lent.{Kept}

pub kept_none : (b : Buffer) → Kept b b
kept_none b = record { same = refl; whole = refl }

pub kept_then : {a b c : Buffer} → Kept a b → Kept b c → Kept a c
kept_then p q = record { same = q.same ∙ p.same; whole = q.whole ∙ p.whole }
