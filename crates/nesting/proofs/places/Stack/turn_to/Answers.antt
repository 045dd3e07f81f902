-- The part in the last slot is replaced.
use native.Mathlib.Omega.{arith}
use Rattle.nesting.proofs.Stacks.{turn_none, turn_out, turn}
use Rattle.nesting.proofs.places.Stack.turn_to.Goals as goal

pub returns-then-self-gt0 : goal.returns-then-self-gt0
returns-then-self-gt0 c = λ o n h t. turn _ o n h (rw c.in-Some.is at t) c.if-self-gt0.true

pub returns-else-self-gt0 : goal.returns-else-self-gt0
returns-else-self-gt0 c = λ o n h t. turn_none _ o n h t (omega arith)

pub returns-in_default : goal.returns-in_default
returns-in_default c = λ o n h t. turn_out _ o n h (rw c.in_default.is at t)
