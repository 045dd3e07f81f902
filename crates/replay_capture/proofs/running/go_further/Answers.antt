-- The steps of both fit, since a run makes no more than its budget.
use Rattle.std.proofs.Common.{ap, arith}
use Rattle.runs.specs.Calls.{added}
use Rattle.runs.proofs.Slices.{resumed_most}
use Rattle.replay_capture.proofs.running.go_further.Goals as goal

pub overflow_add-after : goal.overflow_add-after
overflow_add-after c =
    let few = resumed_most _ _ _ _ _ _ c.resume-after.ensures in
    omega arith

pub returns : goal.returns
returns c = ap (added _) c.resume-after.ensures
