-- The invariant: what the test said so far and what it says of the blocks further out is what it says of all.
use mathlib.Core.Path.{◌≡◌}
use mathlib.Core.Bool.{◌&&◌}
use Prim.Native.Nat.{◌≤◌}
use Rattle.lanes.specs.Blocks.{nesting}
use Rattle.wave.specs.Layout.{opened}
use Rattle.fits.specs.FitsTest.{path_test}
use Rattle.fits.proofs.sets.sets_fit.Given as goal

abbrev pub invariant-loop-i : goal.invariant-loop-i
invariant-loop-i l = (l.i ≤ nesting) × ((l.ok && path_test l.all l.h.halted l.inner (opened l.state.blocks l.i)) ≡ path_test l.all l.h.halted l.initial.inner (opened l.state.blocks l.initial.i))
