-- `compute::masks::marked` meets its contract: a mask of one lane takes that lane out of a set.
use Rattle.lanes.specs.Sets.{widest}
use Rattle.lanes.proofs.Picking.{marks_one, marks_none}
use Rattle.compute.proofs.masks.marked.Goals as goal

pub returns-then-test : goal.returns-then-test
returns-then-test c = let a = c.args in marks_one widest a.set a.lane a.test c.requires c.if-test.true

pub returns-else-test : goal.returns-else-test
returns-else-test c = let a = c.args in marks_none a.set a.lane a.test c.if-test.false
