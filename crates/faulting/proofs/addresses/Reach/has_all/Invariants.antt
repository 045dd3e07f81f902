-- `faulting::addresses::Reach::has_all` meets its contract: at turn k the addresses from k on still decide.
use mathlib.Core.Path.{◌≡◌}
use mathlib.Core.Bool.{◌&&◌}
use Prim.Native.Nat.{◌%◌}
use lib.Dec.{eqb}
use lib.ListN.{take, drop}
use Rattle.ground.specs.Tests.{all_of}
use Rattle.faulting.specs.Causes.{in_reach}
use Rattle.faulting.proofs.Reaching.{is_below}
use Rattle.faulting.proofs.addresses.Reach.has_all.Given as goal

abbrev pub invariant-loop-k : goal.invariant-loop-k
invariant-loop-k l =
    all_of (in_reach l.self.offset l.self.words) (take l.k-end l.at)
    ≡ ((eqb (l.bits % 4) 0 && is_below l.self.offset l.self.words l.top) && all_of (in_reach l.self.offset l.self.words) (drop l.k (take l.k-end l.at)))
