-- One slot more is filled, and a loop is counted.
use mathlib.Core.Logic.{⊎_elim}
use Rattle.nesting.proofs.Stacks.{push}
use Rattle.nesting.proofs.places.Stack.push.Goals as goal

pub returns-in-Loop : goal.returns-in-Loop
returns-in-Loop c = λ o h. push _ _ h c.requires.0 (rw c.in-Loop.is)

pub returns-in-Before : goal.returns-in-Before
returns-in-Before c = λ o h. push _ _ h c.requires.0 (⊎_elim (λ e. rw e) (λ e. rw e) c.in-Before.is)
