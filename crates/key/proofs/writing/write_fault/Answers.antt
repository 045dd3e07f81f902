-- A depth over 32 gives no body; otherwise the body is written, for which there is room, and copied if it is of the layout.
use mathlib.Core.Path.{◌∙◌}
use native.Mathlib.Omega.{arith}
use Rattle.key.proofs.Bodies.{deep_key, body_room, copy_put}
use Rattle.key.proofs.writing.write_fault.Goals as goal

pub returns-then-state-gt-NESTING : goal.returns-then-state-gt-NESTING
returns-then-state-gt-NESTING c = rw c.broken.ensures (deep_key _ _ _ _ c.if-state-gt-NESTING.true)

pub returns : goal.returns
returns c =
    c.copy_body.ensures
    ∙ copy_put _ _ (rw (← c.as_bytes.ensures) at c.body_of-body.ensures) (body_room _ _ _ (omega (arith, c.if-state-gt-NESTING.false))) _
