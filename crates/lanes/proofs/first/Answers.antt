-- `lanes::first` meets its contract: one less than a power of two has every bit below it.
use mathlib.Core.Path.{sym}
use native.Mathlib.Omega.{arith}
use lib.Pow.{pow_pos}
use Rattle.lanes.specs.Sets.{widest}
use Rattle.lanes.proofs.Masks.{shifted, counted, full}
use Rattle.lanes.proofs.first.Goals as goal

pub overflow_sub-result : goal.overflow_sub-result
overflow_sub-result c = omega (arith, shifted widest c.args.n c.if-n-lt-WIDEST.true, pow_pos c.args.n)

pub returns-then-n-lt-WIDEST : goal.returns-then-n-lt-WIDEST
returns-then-n-lt-WIDEST c = counted widest c.args.n c.if-n-lt-WIDEST.true

pub returns-else-n-lt-WIDEST : goal.returns-else-n-lt-WIDEST
returns-else-n-lt-WIDEST c = sym (full widest c.args.n c.if-n-lt-WIDEST.false)
