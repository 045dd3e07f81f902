-- `compute::registers::slot` meets its contract: a product of two numbers of 32 bits, and a number of 32 bits more, has 64.
use mathlib.Core.Path.{refl}
use Rattle.compute.specs.Registers.{slot}
use Rattle.compute.proofs.registers.slot.Goals as goal

pub returns : goal.returns
unfolding slot
returns c = refl
