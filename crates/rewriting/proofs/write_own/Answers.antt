-- The wrap where there is one, and the part copied behind it. Assumes nothing.
use Rattle.std.proofs.Common.{[], cond, refl, sym, take}
use Rattle.std.proofs.lemmas.List.{length-take-le}
use Rattle.encoding.specs.Writers.{Wrote}
use Rattle.bounds.specs.Bounds.{bound_in, wrapped, wrap_bytes}
use Rattle.rewriting.proofs.PushParts.{own-gone, wrote-own}
use Rattle.rewriting.proofs.write_own.Goals as goal
use Rattle.rewriting.proofs.write_own.Goals.{then-wraps, else-wraps}

pub returns-then-not-stays_put : goal.returns-then-not-stays_put
returns-then-not-stays_put c =
    let a = c.args in
    own-gone a.h (bound_in a.b) (take a.k a.q.now) a.out.now (sym c.if-not-stays_put.ensures)

pub returns : goal.returns
returns c =
    let a = c.args in
    let wrap : Wrote (cond (wrapped a.h (bound_in a.b)) (wrap_bytes (bound_in a.b)) []) a.out.now c.if-wraps.out c.if-wraps.at =
    elim c.if-wraps.branch [
      | then-wraps w ↦ rw (w.out-is, w.at-is, ← w.if-wraps.ensures) w.write_wrap-at.ensures
      | else-wraps w ↦ rw (w.out-is, w.at-is, ← w.if-wraps.ensures) (record { size = refl; bytes = refl })
    ] in
    wrote-own a.h (bound_in a.b) (take a.k a.q.now) a.out.now c.if-wraps.out c.copy.new.out c.if-wraps.at c.copy.result
    (sym c.if-not-stays_put.ensures) (rw (length-take-le a.k a.q.now c.requires.2) c.requires.3) wrap c.copy.ensures
