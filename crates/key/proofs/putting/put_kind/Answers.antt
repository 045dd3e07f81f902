-- No lanes are no kind; otherwise the lanes stand behind the kind.
use Rattle.key.proofs.Kinding.{no_kind, some_kind}
use Rattle.key.proofs.putting.put_kind.Goals as goal

pub returns-then-lanes-eq0 : goal.returns-then-lanes-eq0
returns-then-lanes-eq0 c = no_kind _ _ c.if-lanes-eq0.true

pub returns : goal.returns
returns c = some_kind _ _ c.if-lanes-eq0.false c.put.ensures c.put-2.ensures
