-- `across::sources::Sources::prefix_sums` meets its contract: at each turn the lanes below have their sums, and that of the lane is beside them.
use mathlib.Core.Path.{◌≡◌}
use lib.ListN.{get_or}
use Rattle.lanes.proofs.Filling.{Filled}
use Rattle.across.specs.Across.{sum_below}
use Rattle.across.proofs.sources.Sources.prefix_sums.Given as goal

abbrev pub invariant-loop-lane : goal.invariant-loop-lane
invariant-loop-lane l =
    let sums = sum_below l.self.t (λ j. get_or l.self.numbers.now j 0) in
    Filled l.lane-end sums l.out l.lane × (l.below ≡ sums l.lane)
