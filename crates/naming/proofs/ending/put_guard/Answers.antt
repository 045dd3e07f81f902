-- By the test.
use Rattle.naming.proofs.Parts.{on_adds}
use Rattle.naming.proofs.ending.put_guard.Goals as goal

pub returns-then-guard-ne0 : goal.returns-then-guard-ne0
returns-then-guard-ne0 c = on_adds _ _ c.if-guard-ne0.true c.on_mark.ensures c.put_numbered.ensures
