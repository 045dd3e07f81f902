-- `compute::per_lane::each_lane` meets its contract: at turn i the lanes below i have their answers.
use mathlib.Core.Path.{◌≡◌}
use Prim.Native.Nat.{ℕ, ◌<◌}
use Rattle.lanes.proofs.Filling.{Filled}
use Rattle.compute.proofs.per_lane.each_lane.Given as goal

abbrev pub invariant-loop-i : goal.invariant-loop-i
invariant-loop-i g l =
    (h : ℕ → ℕ) → ((i r : ℕ) → i < l.fn.width.lanes → goal.F-post g l.f i r → r ≡ h i) → Filled l.fn.width.lanes h l.out l.i
