-- The executing lanes are active lanes, whatever the guard.
use Rattle.std.proofs.Common.{ℕ, ◌≤◌, Bool, true, false, cond, arith}
use lib.Bits.{bit_and}
use Rattle.instructions.specs.declared.instr.Guard.{Guard}
use Rattle.lanes.specs.Sets.{bit, without}
use Rattle.lanes.proofs.Bits.{bit_and_lem, bit_without}
use Rattle.wave.specs.Wave.{Preds}
use Rattle.wave.specs.Going.{holding, executing_of}

part_of : (negate : Bool) (a s i : ℕ) → bit (cond negate (without a s) (bit_and a s)) i ≤ bit a i
part_of true a s i = omega (arith, bit_without a s i)
part_of false a s i = omega (arith, bit_and_lem a s i)

pub executing_within : (g : Guard) (active : ℕ) (ps : Preds) (i : ℕ) → bit (executing_of g active ps) i ≤ bit active i
executing_within g active ps i = part_of g.negate active (holding g.pred active ps) i
