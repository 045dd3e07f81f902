-- The two numbers stand behind the fault kinds before it.
use native.Mathlib.Omega.{arith}
use Rattle.body.proofs.Reading.{fault_read, fault_past}
use Rattle.body.proofs.fields.fault.Goals as goal

pub returns-then-count-k : goal.returns-then-count-k
returns-then-count-k c = fault_past _ _ (omega (arith, c.count.ensures, c.if-count-k.true))

pub returns : goal.returns
returns c =
    fault_read _ _ _ _ (omega (arith, c.count.ensures, c.if-count-k.false)) c.get-kind.ensures c.get-lanes.ensures
