-- LOOP puts one block more above the open ones, where there is room.
use Rattle.std.proofs.Common.{refl}
use Rattle.control.specs.Rules.{loop_rule}
use Rattle.control.proofs.Ruling.{full, opened_one}
use Rattle.control.proofs.rules.opening.loop_rule.Goals as goal

pub returns-then-d-eq-NESTING : goal.returns-then-d-eq-NESTING
returns-then-d-eq-NESTING c = full (record { long = c.told-blocks; depth = c.depth_of-d.ensures; place = c.after_place.ensures }) loop_rule _ _ c.if-d-eq-NESTING.true refl

pub returns : goal.returns
returns c = opened_one (record { long = c.told-blocks; depth = c.depth_of-d.ensures; place = c.after_place.ensures }) loop_rule _ _ c.if-d-eq-NESTING.false refl
