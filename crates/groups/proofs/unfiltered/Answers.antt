-- Projections, then bounds. Assumes nothing.
use Rattle.groups.proofs.GroupLaws.{unfilters}
use Rattle.groups.proofs.unfiltered.Goals as goal

pub returns-clause-writes : goal.returns-clause-writes
returns-clause-writes c = unfilters c.args.t.now c.args.at c.args.from _ _ _ c.projections.ensures.writes c.bounds.ensures.writes
