-- The invariant: the kinds below `kind` are counted, and those from it on are left.
use Rattle.key.proofs.Kinding.{Counting}
use Rattle.key.proofs.putting.count_of.Given as goal

abbrev pub invariant-loop-kind : goal.invariant-loop-kind
invariant-loop-kind l = Counting l.f l.count l.kind
