-- The numbers of a launch are those of its wave, in a state of zeros.
use Rattle.wave.proofs.launch.launched.Goals as goal

pub returns : goal.returns
returns c = rw c.first.ensures
