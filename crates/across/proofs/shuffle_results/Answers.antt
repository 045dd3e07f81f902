-- `across::shuffle_results` meets its contract: at each turn the lanes below have the numbers of the lanes that they name.
use mathlib.Core.Path.{ap, ◌∙◌}
use Prim.Native.Nat.{ℕ}
use native.Mathlib.Omega.{arith}
use lib.ListN.{get_or}
use Rattle.lanes.specs.EachLane.{by_lane}
use Rattle.lanes.proofs.Filling.{filled_none, filled_all}
use Rattle.across.specs.Across.{shuffle_of}
use Rattle.across.proofs.shuffle_results.Goals as goal

pub loop-lane-init : goal.loop-lane-init
loop-lane-init c = filled_none _ c.of.result.narrow

pub returns : goal.returns
returns c =
    let a = c.args in
    filled_all c.loop-lane.invariant (omega arith)
    ∙ ap (λ (n : ℕ). by_lane n (shuffle_of n a.t (λ j. get_or a.numbers.now j 0) (λ j. get_or a.named.now j 0))) c.of.ensures
