-- The active lanes with the predicate, or those without it where the guard is negated.
use Rattle.std.proofs.Common.{◌∙◌}
use Rattle.wave.proofs.guarding.executing.Goals as goal

pub returns-then-g : goal.returns-then-g
returns-then-g c = c.without.ensures ∙ rw (c.if-g.true, c.holding_lanes-on.ensures)

pub returns-else-g : goal.returns-else-g
returns-else-g c = rw (c.if-g.false, c.holding_lanes-on.ensures)
