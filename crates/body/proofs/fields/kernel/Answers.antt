-- The number stands first.
use mathlib.Core.Path.{sym, ◌∙◌}
use Rattle.body.specs.Body.{set_bytes}
use Rattle.body.proofs.Places.{kernel_place_lem}
use Rattle.body.proofs.fields.kernel.Goals as goal

pub returns : goal.returns
returns c = c.get.ensures ∙ sym (kernel_place_lem set_bytes _)
