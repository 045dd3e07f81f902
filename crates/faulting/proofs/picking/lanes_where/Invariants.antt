-- `faulting::picking::lanes_where` meets its contract: at each turn the set has the lanes below whose number passes.
use mathlib.Core.Bool.{Bool, ◌&&◌}
use Prim.Native.Nat.{ℕ}
use lib.ListN.{get_or}
use Rattle.lanes.specs.Sets.{has}
use Rattle.lanes.proofs.Picking.{Marked}
use Rattle.faulting.specs.Asks.{Asks}
use Rattle.faulting.proofs.picking.lanes_where.Given as goal

abbrev pub invariant-loop-lane : goal.invariant-loop-lane
invariant-loop-lane g l =
    (p : ℕ → Bool) → Asks (goal.F-post g l.test) p → Marked l.lane-end (λ i. has l.t i && p (get_or l.numbers i 0)) l.set l.lane
