-- ELSE makes the innermost block its second half, with the active lanes set aside.
use Rattle.std.proofs.Common.{refl}
use Rattle.control.specs.Rules.{else_rule}
use Rattle.control.proofs.Ruling.{none_open, turned_one}
use Rattle.control.proofs.rules.closing.else_rule.Goals as goal

pub returns-then-d-eq0 : goal.returns-then-d-eq0
returns-then-d-eq0 c = none_open (record { long = c.told-blocks; depth = c.depth_of-d.ensures; place = c.after_place.ensures }) else_rule c.if-d-eq0.true refl

pub returns : goal.returns
returns c = turned_one {h = c.args.h} _ (record { long = c.told-blocks; depth = c.depth_of-d.ensures; place = c.after_place.ensures }) c.if-d-eq0.false
