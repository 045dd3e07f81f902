-- `lanes::only` meets its contract: nothing is shifted out of a mask that is wide enough.
use Rattle.lanes.specs.Sets.{widest}
use Rattle.lanes.proofs.Masks.{picked_one, picked_none}
use Rattle.lanes.proofs.only.Goals as goal

pub returns-then-picked-lane : goal.returns-then-picked-lane
returns-then-picked-lane c = picked_one widest c.args.lane c.args.picked c.if-picked-lane.true

pub returns-else-picked-lane : goal.returns-else-picked-lane
returns-else-picked-lane c = picked_none widest c.args.lane c.args.picked c.if-picked-lane.false
