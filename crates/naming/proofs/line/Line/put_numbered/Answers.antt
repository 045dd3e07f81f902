-- The text, and the number behind it.
use Rattle.naming.proofs.Adding.{adds_join}
use Rattle.naming.proofs.line.Line.put_numbered.Goals as goal

pub returns : goal.returns
returns c = adds_join c.put.ensures c.put_number.ensures
