-- The two tests as the definition has them.
use Rattle.stepping.proofs.run.has_ended.Goals as goal

pub returns : goal.returns
returns c = rw (c.without-running.ensures, c.first.ensures)
