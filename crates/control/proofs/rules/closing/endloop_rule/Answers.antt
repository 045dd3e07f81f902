-- ENDLOOP: either the loop closes, and the array stays as it is, or it goes round, and forgets its continued lanes.
use Rattle.std.proofs.Common.{refl}
use Rattle.control.specs.Rules.{endloop_rule}
use Rattle.control.proofs.Ruling.{none_open, done_one, round_one}
use Rattle.control.proofs.rules.closing.endloop_rule.Goals as goal

pub returns-then-d-eq0 : goal.returns-then-d-eq0
returns-then-d-eq0 c = none_open (record { long = c.told-blocks; depth = c.depth_of-d.ensures; place = c.after_place.ensures }) endloop_rule c.if-d-eq0.true refl

pub returns-then-go-eq0 : goal.returns-then-go-eq0
returns-then-go-eq0 c = done_one {h = c.args.h} _ (record { long = c.told-blocks; depth = c.depth_of-d.ensures; place = c.after_place.ensures }) c.if-d-eq0.false c.if-go-eq0.true

pub returns : goal.returns
returns c = round_one {h = c.args.h} _ _ (record { long = c.told-blocks; depth = c.depth_of-d.ensures; place = c.after_place.ensures }) c.if-d-eq0.false c.if-go-eq0.false c.after_place-2.ensures
