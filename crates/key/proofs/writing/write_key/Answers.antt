-- By the outcome.
use mathlib.Core.Path.{◌∙◌}
use Rattle.key.proofs.Bodies.{key_fault, key_ended, key_budget, key_refused}
use Rattle.key.proofs.writing.write_key.Goals as goal

pub returns-in-Fault : goal.returns-in-Fault
returns-in-Fault c =
    c.write_fault.ensures ∙ key_fault _ c.args.answer _ _ c.in-Fault.is

pub returns-in-Ended : goal.returns-in-Ended
returns-in-Ended c = rw c.broken.ensures (key_ended _ c.args.answer _ c.in-Ended.is)

pub returns-in-OutOfBudget : goal.returns-in-OutOfBudget
returns-in-OutOfBudget c = rw c.broken-in-OutOfBudget.ensures (key_budget _ c.args.answer _ c.in-OutOfBudget.is)

pub returns-in-Refused : goal.returns-in-Refused
returns-in-Refused c = rw c.broken-in-Refused.ensures (key_refused _ c.args.answer _ _ c.in-Refused.is)
