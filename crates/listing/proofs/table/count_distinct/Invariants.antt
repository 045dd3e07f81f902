-- The invariant: the count so far and that of the rest come to the whole.
use mathlib.Core.Path.{◌≡◌}
use Prim.Native.Nat.{◌+◌, ◌≤◌}
use lib.ListN.{drop}
use Rattle.listing.specs.Text.{distinct}
use Rattle.listing.proofs.table.count_distinct.Given as goal

abbrev pub invariant-loop-k : goal.invariant-loop-k
invariant-loop-k l = (l.d ≤ l.k) × (l.d + distinct (l.k + 1) (drop l.k l.firsts) ≡ distinct 1 l.firsts)
