-- `lanes::each` meets its contract: at turn i the lanes below i have the number.
use mathlib.Core.Path.{refl, ap, ◌∙◌}
use Prim.Native.Nat.{ℕ}
use native.Mathlib.Omega.{arith}
use Rattle.lanes.specs.EachLane.{by_lane}
use Rattle.lanes.proofs.Filling.{filled_none, filled_more, filled_all}
use Rattle.lanes.proofs.each.Goals as goal

pub loop-i-init : goal.loop-i-init
loop-i-init c = filled_none _ (omega (arith, c.narrowed-end.ensures))

pub loop-i-preserved : goal.loop-i-preserved
loop-i-preserved c = filled_more c.loop-i.invariant (omega arith) _ refl

pub returns : goal.returns
returns c =
    filled_all c.loop-i.invariant (omega arith)
    ∙ ap (λ (n : ℕ). by_lane n (λ i. c.args.number)) c.narrowed-end.ensures
