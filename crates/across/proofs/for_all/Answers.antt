-- Below lane 0 nothing is summed.
use mathlib.Core.Path.{refl}
use Rattle.across.specs.Across.{fold_below}
use Rattle.across.proofs.for_all.Goals as goal

pub returns-in-PrefixSum : goal.returns-in-PrefixSum
unfolding fold_below
returns-in-PrefixSum c = rw c.in-PrefixSum.is refl
