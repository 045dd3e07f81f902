-- By whether there is a state.
use Rattle.runs.specs.Starting.{start_of}
use Rattle.replay_capture.proofs.running.start.Goals as goal

pub returns-in-None : goal.returns-in-None
unfolding start_of
returns-in-None c = rw c.in-None.is c.launch.ensures

pub returns-in-Some : goal.returns-in-Some
unfolding start_of
returns-in-Some c = rw c.in-Some.is c.resume.ensures
