-- The invariant: the kinds that are left, put behind, give all.
use native.Mathlib.Omega.{arith}
use Rattle.listing.proofs.Kinding.{kinds_few, kinding_start, kinding_turn, kinding_end}
use Rattle.listing.proofs.table.put_kinds.Goals as goal

pub overflow_sub-last : goal.overflow_sub-last
overflow_sub-last c = omega (arith, c.count.ensures, (kinds_few _ c.args.body.now.whole).0)

pub loop-k-init : goal.loop-k-init
loop-k-init c = kinding_start c.args.body.now.whole

pub loop-k-preserved : goal.loop-k-preserved
loop-k-preserved c = kinding_turn c.loop-k.invariant c.count.ensures c.loop-k-test.true c.fault.ensures c.put_field.ensures

pub returns : goal.returns
returns c = kinding_end c.loop-k.invariant c.count.ensures c.loop-k-test.false c.fault-2.ensures c.put_field-2.ensures
