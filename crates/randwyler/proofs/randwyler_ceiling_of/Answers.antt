-- By the check of both, and the ceiling of what passed it. Assumes nothing.
use mathlib.Core.Path.{◌∙◌}
use Rattle.randwyler.proofs.Checks.{ceiling-refuses, ceiling-answers, ceiling-sound}
use Rattle.randwyler.proofs.randwyler_ceiling_of.Goals as goal

pub returns-in-Err : goal.returns-in-Err
returns-in-Err c = c.ceiling_refused.ensures ∙ ceiling-refuses _ _ c.in-Err.ensures

pub returns-in-Err-ceiling_node : goal.returns-in-Err-ceiling_node
returns-in-Err-ceiling_node c = absurd (ceiling-sound _ _ _ c.in-Ok.ensures c.in-Err-ceiling_node.ensures)

pub returns-in-Ok-ceiling_node : goal.returns-in-Ok-ceiling_node
returns-in-Ok-ceiling_node c = ceiling-answers _ _ _ c.in-Ok.ensures c.in-Ok-ceiling_node.ensures
