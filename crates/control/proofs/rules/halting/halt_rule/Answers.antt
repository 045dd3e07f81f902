-- HALT: the lanes have left the blocks that the loop has passed.
use Rattle.std.proofs.Common.{arith}
use native.Mathlib.Nat.{min-le_right}
use Rattle.lanes.specs.Blocks.{nesting}
use Rattle.control.specs.Rules.{leave}
use Rattle.control.proofs.Ruling.{halted_all}
use Rattle.control.proofs.Walks.{changed_more, changed_all}
use Rattle.control.proofs.rules.halting.halt_rule.Goals as goal

pub loop-block-preserved : goal.loop-block-preserved
loop-block-preserved c = let l = c.loop-block in changed_more (leave c.args.t) _ l.block-items l.block-index c.loop-block-test.true l.invariant

pub returns : goal.returns
returns c =
    let l = c.loop-block in
    let s = c.args in
    halted_all s.h _ s.blocks.now _ s.t c.without_lanes-n.ensures
    (rw (← c.depth_of-d.ensures)
    (changed_all (leave s.t) s.blocks.now l.block-items _ l.block-index (omega (arith, min-le_right s.h.depth nesting)) c.loop-block-test.false l.invariant))
