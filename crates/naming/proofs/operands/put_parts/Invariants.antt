-- The parts gone through are put.
use lib.ListN.{take}
use Rattle.naming.specs.Line.{Adds}
use Rattle.naming.specs.Parts.{parts_text}
use Rattle.naming.proofs.operands.put_parts.Given as goal

abbrev pub invariant-loop-part : goal.invariant-loop-part
invariant-loop-part l = Adds l.initial.line (parts_text (take l.part-index l.parts)) l.line
