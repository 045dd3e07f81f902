-- By the test.
use Rattle.naming.proofs.Parts.{scope_adds}
use Rattle.naming.proofs.ending.put_scope.Goals as goal

pub returns-then-scope-ne0 : goal.returns-then-scope-ne0
returns-then-scope-ne0 c = scope_adds _ c.if-scope-ne0.true c.put_numbered.ensures
