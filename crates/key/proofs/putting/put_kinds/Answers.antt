-- One kind more.
use native.Mathlib.Omega.{arith}
use Rattle.key.proofs.Kinding.{kept_none, kept_next, kept_all}
use Rattle.key.proofs.putting.put_kinds.Goals as goal

pub loop-kind-init : goal.loop-kind-init
loop-kind-init c = kept_none _ _

pub loop-kind-preserved : goal.loop-kind-preserved
loop-kind-preserved c =
    kept_next _ _ _ _ _ c.loop-kind.invariant (omega (arith, c.loop-kind-test.true)) _ c.lanes_of_kind.ensures c.put_kind.ensures

pub returns : goal.returns
returns c = kept_all _ _ _ _ c.loop-kind.invariant (omega (arith, c.loop-kind-test.false))
