-- By the verdict of the tests: the refusal, or the run from the state.
use Rattle.replay.specs.Replay.{resume_of}
use Rattle.replay.proofs.Entering.{refused_by, run_by}
use Rattle.replay.proofs.doors.resume.Goals as goal

pub returns-in-Err : goal.returns-in-Err
unfolding resume_of
returns-in-Err c = refused_by c.test_resume.ensures _ c.in-Err.is c.refused.ensures

pub returns-in-Ok : goal.returns-in-Ok
unfolding resume_of
returns-in-Ok c = run_by c.test_resume.ensures _ _ _ _ c.in-Ok.is c.run_from.ensures
