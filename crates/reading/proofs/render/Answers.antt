-- By what is gathered, and then filtered. Assumes nothing.
use Rattle.reading.proofs.WriteLaws.{renders}
use Rattle.reading.proofs.render.Goals as goal

pub returns-clause-writes : goal.returns-clause-writes
returns-clause-writes c = renders c.args.t.now _ _ _ _ c.requires c.gather.ensures.writes.1 c.filtered.ensures.writes
