-- `compute::comparisons::predicate_after` meets its contract: at turn i the set has the lanes below i whose result is 1.
use mathlib.Core.Path.{ap₂, ◌∙◌}
use native.Mathlib.Omega.{arith}
use lib.Bits.{bit_or}
use Rattle.lanes.proofs.Picking.{marked_none, marked_more, marked_all}
use Rattle.compute.specs.Values.{predicate_of}
use Rattle.compute.proofs.comparisons.predicate_after.Goals as goal

pub loop-i-init : goal.loop-i-init
loop-i-init c = marked_none _

pub loop-i-preserved : goal.loop-i-preserved
loop-i-preserved c =
    marked_more c.loop-i.invariant (omega arith) _ _ c.union-set.ensures c.marked.ensures

pub returns : goal.returns
unfolding predicate_of
returns c =
    c.union.ensures ∙ ap₂ bit_or c.without.ensures (marked_all c.loop-i.invariant (omega arith))
