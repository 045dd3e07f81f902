-- The kinds below `kind` stand one behind another.
use Rattle.key.proofs.Kinding.{Kept}
use Rattle.key.proofs.putting.put_kinds.Given as goal

abbrev pub invariant-loop-kind : goal.invariant-loop-kind
invariant-loop-kind l = Kept l.f l.initial.draft l.draft l.kind
