-- A run goes in slices only where its budget is allowed.
use Rattle.std.proofs.Common.{leb-true}
use Rattle.ground.proofs.Bools.{and_right}
use Rattle.replay_capture.proofs.running.run.Goals as goal

pub run_in_slices-requires : goal.run_in_slices-requires
run_in_slices-requires c =
    leb-true _ _ (and_right c.args.sliced _ c.if-slices.true)
