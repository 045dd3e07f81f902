-- What is left to do from the machine that the loop has reached is the run, and the buffers keep their lengths.
use Prim.Native.Nat.{◌-◌}
use Rattle.stepping.specs.Machine.{machine_of}
use Rattle.stepping.proofs.Turns.{Going}
use Rattle.stepping.proofs.run.go.Given as goal

abbrev pub invariant-loop-settings : goal.invariant-loop-settings
invariant-loop-settings l =
    Going l.settings l.code l.budget l.steps (machine_of l.initial.hot l.initial.blocks l.initial.regs l.initial.device l.initial.local) (machine_of l.hot l.blocks l.regs l.device l.local)

abbrev pub decreases-loop-settings : goal.decreases-loop-settings
decreases-loop-settings l = l.budget - l.steps
