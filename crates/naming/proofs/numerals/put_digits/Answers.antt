-- The digits that are left to find, before those found, are all.
use native.Mathlib.Omega.{arith}
use Rattle.naming.proofs.Digits.{digits_turn, digits_end}
use Rattle.naming.proofs.numerals.put_digits.Goals as goal

pub loop-i-preserved : goal.loop-i-preserved
loop-i-preserved g c = digits_turn _ c.loop-i.i _ _ _ c.requires.0 c.requires.1 c.loop-i-test.true (omega arith) c.loop-i.invariant

pub returns : goal.returns
returns g c = digits_end _ c.loop-i.i _ _ _ c.loop-i-test.false c.loop-i.invariant
