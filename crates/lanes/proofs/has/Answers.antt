-- `lanes::has` meets its contract: a shift brings the lane's bit down, and no mask has a bit past its width.
use Rattle.lanes.specs.Sets.{widest}
use Rattle.lanes.proofs.Masks.{tested}
use Rattle.lanes.proofs.has.Goals as goal

pub returns : goal.returns
returns c = tested widest c.args.set c.args.lane c.ranges.set.fits
