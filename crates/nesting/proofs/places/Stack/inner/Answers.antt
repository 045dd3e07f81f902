-- The part in the last slot is the innermost block's.
use Rattle.nesting.proofs.Stacks.{none_inside, some_inside}
use Rattle.nesting.proofs.places.Stack.inner.Goals as goal

pub returns-then-self-eq0 : goal.returns-then-self-eq0
returns-then-self-eq0 c = λ o h. none_inside _ o h c.if-self-eq0.true

pub returns-else-self-eq0 : goal.returns-else-self-eq0
returns-else-self-eq0 c = λ o h. some_inside _ o h c.if-self-eq0.false
