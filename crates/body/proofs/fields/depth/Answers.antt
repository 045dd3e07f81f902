-- The number stands behind the fault kinds and two sets.
use mathlib.Core.Path.{◌∙◌}
use Rattle.body.proofs.Reading.{depth_read}
use Rattle.body.proofs.fields.depth.Goals as goal

pub returns : goal.returns
returns c = c.get.ensures ∙ depth_read _ _ c.count-kinds.ensures
