-- BARRIER: either the wave is as before and the active lanes are answered, or it goes one word on.
use Rattle.std.proofs.Common.{refl}
use Rattle.control.proofs.Ruling.{barrier_stops, barrier_goes}
use Rattle.control.proofs.rules.barrier.barrier_rule.Goals as goal

pub returns-then-stop : goal.returns-then-stop
returns-then-stop c = let s = c.args in
    barrier_stops s.all (record { long = c.told-blocks; depth = c.depth_of.ensures; place = refl })
    (rw c.without-rest.ensures at c.if-stop.true)

pub returns : goal.returns
returns c = let s = c.args in
    barrier_goes s.all (record { long = c.told-blocks; depth = c.depth_of.ensures; place = c.after_place.ensures })
    (rw c.without-rest.ensures at c.if-stop.false)
