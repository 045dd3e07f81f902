-- `across::sources::Sources::fold` meets its contract: at each turn it is what the executing lanes below make.
use mathlib.Core.Path.{◌≡◌}
use Prim.Native.Nat.{◌^◌, ◌<◌}
use lib.ListN.{get_or}
use Rattle.instructions.specs.declared.instr.TwoOp.{TwoOp}
use Rattle.across.specs.Across.{fold_below}
use Rattle.across.specs.Joins.{Joins}
use Rattle.across.proofs.sources.Sources.fold.Given as goal

abbrev pub invariant-loop-lane : goal.invariant-loop-lane
invariant-loop-lane g l =
    (l.made < 2 ^ 32)
    × ((o : TwoOp) → Joins (goal.F-post g l.join) o → l.made ≡ fold_below o l.idle l.self.t (λ j. get_or l.self.numbers.now j 0) l.lane)
