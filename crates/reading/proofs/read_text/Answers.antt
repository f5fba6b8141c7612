-- By what the scan answers; that a long text is refused the check finds (`long_texts`). Assumes nothing.
use native.Mathlib.Omega.{arith}
use Rattle.reading.proofs.CallLaws.{call-fault, call-tokens}
use Rattle.reading.proofs.read_text.Goals as goal

pub returns-in-Ok : goal.returns-in-Ok
returns-in-Ok c = call-tokens _ _ _ _ _ _ (omega arith) c.in-Ok.ensures c.write.ensures

pub returns-in-Err : goal.returns-in-Err
returns-in-Err c = call-fault _ _ c.scan.new.words _ (omega arith) c.in-Err.ensures
