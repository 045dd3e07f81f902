-- The invariant: the first i blocks have been compared.
use mathlib.Core.Path.{◌≡◌}
use Rattle.fits.specs.FitsTest.{same_blocks}
use Rattle.fits.proofs.places.same_blocks.Given as goal

abbrev pub invariant-loop-i : goal.invariant-loop-i
invariant-loop-i l = l.ok ≡ same_blocks l.blocks l.stack.blocks l.i
