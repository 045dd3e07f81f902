-- The empty stack holds no blocks.
use native.Mathlib.Omega.{arith}
use mathlib.Core.Path.{refl}
use Rattle.blocks.specs.Open.{loops}
use Rattle.nesting.specs.OpenAt.{slots}
use Rattle.nesting.proofs.places.Stack.empty.Goals as goal

pub returns : goal.returns
unfolding loops slots
returns c = record { at_most = omega arith; depth_is = refl; loops_is = refl; blocks_are = refl }
