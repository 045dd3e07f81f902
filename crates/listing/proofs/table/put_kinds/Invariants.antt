-- The invariant: the kinds that are left, put behind, give all.
use Rattle.listing.proofs.Kinding.{KindsLeft}
use Rattle.listing.proofs.table.put_kinds.Given as goal

abbrev pub invariant-loop-k : goal.invariant-loop-k
invariant-loop-k l = KindsLeft l.body.bytes.now l.initial.writer l.writer l.k
