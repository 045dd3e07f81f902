-- The number stands second.
use mathlib.Core.Path.{sym, ◌∙◌}
use Rattle.body.specs.Body.{set_bytes}
use Rattle.body.proofs.Places.{place_place_lem}
use Rattle.body.proofs.fields.place.Goals as goal

pub returns : goal.returns
returns c = c.get.ensures ∙ sym (place_place_lem set_bytes _)
