-- The invariant: the faults from `left` on are tested, and their kinds are spelled.
use Prim.Native.Nat.{◌≤◌}
use lib.ListN.{length}
use Rattle.body.specs.Body.{parts_at}
use Rattle.body.specs.Layout.{most_kinds}
use Rattle.body.proofs.Spelling.{Testing}
use Rattle.body.proofs.faults_fit.Given as goal

abbrev pub invariant-loop-left : goal.invariant-loop-left
invariant-loop-left l = (length (parts_at l.bytes).faults ≤ most_kinds) × Testing (parts_at l.bytes).faults l.left l.kinds l.seen
