-- IF puts one block more above the open ones, where there is room.
use Rattle.lanes.specs.Blocks.{before_else}
use Rattle.control.specs.Rules.{if_rule, opening}
use Rattle.control.proofs.Ruling.{full, opened_one}
use Rattle.control.proofs.rules.opening.if_rule.Goals as goal

pub returns-then-d-eq-NESTING : goal.returns-then-d-eq-NESTING
returns-then-d-eq-NESTING c = full (record { long = c.told-blocks; depth = c.depth_of-d.ensures; place = c.after_place.ensures }) (if_rule c.args.t) _ (opening before_else c.args.h.place c.args.h.active c.without-wait.result) c.if-d-eq-NESTING.true (rw c.without-wait.ensures)

pub returns : goal.returns
returns c = opened_one (record { long = c.told-blocks; depth = c.depth_of-d.ensures; place = c.after_place.ensures }) (if_rule c.args.t) _ _ c.if-d-eq-NESTING.false (rw c.without-wait.ensures)
