-- One block more.
use Rattle.key.proofs.Drafting.{put_none, put_next, put_all}
use Rattle.key.proofs.putting.put_blocks.Goals as goal

pub loop-b-init : goal.loop-b-init
loop-b-init c = put_none

pub loop-b-preserved : goal.loop-b-preserved
loop-b-preserved c = put_next _ _ _ c.loop-b-test.true c.loop-b.invariant c.put_block.ensures

pub returns : goal.returns
returns c = put_all _ _ c.loop-b-test.false c.loop-b.invariant
