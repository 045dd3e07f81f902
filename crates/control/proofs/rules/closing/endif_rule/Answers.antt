-- ENDIF: the numbers are those of the wave without its innermost block, whose waiting lanes join the active ones.
use Rattle.std.proofs.Common.{refl}
use Rattle.control.specs.Rules.{endif_rule}
use Rattle.control.proofs.Ruling.{none_open, closed_one}
use Rattle.control.proofs.rules.closing.endif_rule.Goals as goal

pub returns-then-d-eq0 : goal.returns-then-d-eq0
returns-then-d-eq0 c = none_open (record { long = c.told-blocks; depth = c.depth_of-d.ensures; place = c.after_place.ensures }) endif_rule c.if-d-eq0.true refl

pub returns : goal.returns
returns c = closed_one {h = c.args.h} _ (record { long = c.told-blocks; depth = c.depth_of-d.ensures; place = c.after_place.ensures }) c.if-d-eq0.false
