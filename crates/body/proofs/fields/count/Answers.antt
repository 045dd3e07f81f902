-- The number stands third, and as many fault kinds behind it.
use mathlib.Core.Path.{◌∙◌}
use Rattle.body.proofs.Reading.{count_read}
use Rattle.body.proofs.fields.count.Goals as goal

pub returns : goal.returns
returns c = c.get.ensures ∙ count_read _
