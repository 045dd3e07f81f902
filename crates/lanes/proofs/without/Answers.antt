-- `lanes::without` meets its contract: what both sets have is no more than either.
use mathlib.Core.Path.{refl}
use native.Mathlib.Omega.{arith}
use lib.Bits.{and_le_l, and_le_r}
use Rattle.lanes.specs.Sets.{without}
use Rattle.lanes.proofs.without.Goals as goal

pub overflow_sub-result : goal.overflow_sub-result
overflow_sub-result c = omega (arith, and_le_l c.args.a c.args.b, and_le_r c.args.a c.args.b)

pub returns : goal.returns
unfolding without
returns c = refl
