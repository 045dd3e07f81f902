-- The name, the operands and what follows them, one behind another, are the text.
use Rattle.naming.proofs.Parts.{text_adds}
use Rattle.naming.proofs.put_line.Goals as goal

pub returns : goal.returns
returns c = text_adds c.args.instr c.put_name.ensures c.put_operands.ensures c.put_scope.ensures c.put_guard.ensures
