-- By the test.
use native.Mathlib.Omega.{arith}
use borrow.Author.Tests.{eq-eqb, ne_eqb}
use Rattle.key.proofs.putting.kinds_of.Goals as goal

pub returns-then-lanes-eq0 : goal.returns-then-lanes-eq0
returns-then-lanes-eq0 c = (rw (eq-eqb _ 0 c.if-lanes-eq0.true), omega arith)

pub returns-else-lanes-eq0 : goal.returns-else-lanes-eq0
returns-else-lanes-eq0 c = (rw (ne_eqb _ 0 c.if-lanes-eq0.false), omega arith)
