-- `across::shuffle_results` meets its contract: at each turn the lanes below have the numbers of the lanes that they name.
use lib.ListN.{get_or}
use Rattle.lanes.proofs.Filling.{Filled}
use Rattle.across.specs.Across.{shuffle_of}
use Rattle.across.proofs.shuffle_results.Given as goal

abbrev pub invariant-loop-lane : goal.invariant-loop-lane
invariant-loop-lane l =
    Filled l.lane-end (shuffle_of l.lane-end l.t (λ j. get_or l.numbers j 0) (λ j. get_or l.named j 0)) l.out l.lane
