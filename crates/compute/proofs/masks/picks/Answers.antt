-- `compute::masks::picks` meets its contract: a mask of one lane takes that lane out of a set.
use Rattle.lanes.specs.Sets.{widest}
use Rattle.lanes.proofs.Picking.{picks_one}
use Rattle.compute.proofs.masks.picks.Goals as goal

pub returns : goal.returns
returns c = picks_one widest c.args.set c.args.lane c.requires
