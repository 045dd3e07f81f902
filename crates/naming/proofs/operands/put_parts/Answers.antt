-- One part more.
use Rattle.naming.proofs.Parts.{parts_on}
use Rattle.naming.proofs.operands.put_parts.Goals as goal

pub loop-part-preserved : goal.loop-part-preserved
loop-part-preserved c = parts_on _ _ _ c.loop-part-test.true c.loop-part.invariant c.put_part.ensures
