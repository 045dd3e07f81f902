-- The tests are those of the definition.
use mathlib.Core.Path.{refl}
use Rattle.body.specs.Spelling.{may_precede}
use Rattle.body.proofs.may_precede.Goals as goal

pub returns : goal.returns
unfolding may_precede
returns c = refl
