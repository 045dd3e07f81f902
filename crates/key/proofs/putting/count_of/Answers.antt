-- The invariant: the kinds below `kind` are counted, and those from it on are left.
use mathlib.Core.Path.{ap, ◌∙◌}
use mathlib.Core.Bool.{cond}
use Prim.Native.Nat.{ℕ}
use native.Mathlib.Omega.{arith}
use lib.Dec.{eqb}
use Rattle.key.proofs.Kinding.{count_none, count_next, count_all}
use Rattle.key.proofs.putting.count_of.Goals as goal

pub loop-kind-init : goal.loop-kind-init
loop-kind-init c = count_none _

pub overflow_add-count : goal.overflow_add-count
overflow_add-count c =
    omega (arith, c.kinds_of-count.ensures.1, c.loop-kind-test.true, c.loop-kind.invariant.below)

pub loop-kind-preserved : goal.loop-kind-preserved
loop-kind-preserved c =
    count_next _ _ _ _ c.loop-kind.invariant (omega (arith, c.loop-kind-test.true))
    (c.kinds_of-count.ensures.0 ∙ ap (λ (l : ℕ). cond (eqb l 0) 0 1) c.lanes_of_kind.ensures)
    c.kinds_of-count.ensures.1

pub returns : goal.returns
returns c = count_all _ _ _ c.loop-kind.invariant (omega (arith, c.loop-kind-test.false))
