-- At each turn what is left finishes the run.
use Rattle.std.proofs.Common.{◌≡◌, length}
use Rattle.stepping.specs.Answer.{answered}
use Rattle.runs.specs.Starting.{finished}
use Rattle.runs.proofs.Slices.{Going}
use Rattle.replay_capture.proofs.running.run_in_slices.Given as goal

abbrev pub invariant-loop-left : goal.invariant-loop-left
invariant-loop-left l =
    Going l.settings l.code
    (finished l.settings l.code l.initial.left (answered l.initial.answer l.initial.memory.regs.now l.initial.memory.device.now l.initial.memory.local.now))
    l.left (answered l.answer l.memory.regs.now l.memory.device.now l.memory.local.now)
    × (length l.file ≡ length l.initial.file)

abbrev pub decreases-loop-left : goal.decreases-loop-left
decreases-loop-left l = l.left
