-- The last slot is cleared, and a loop is no longer counted.
use mathlib.Core.Path.{refl}
use mathlib.Core.Logic.{⊎_elim}
use Rattle.nesting.proofs.Stacks.{pop_none, pop}
use Rattle.nesting.proofs.places.Stack.pop.Goals as goal

pub returns-then-self-eq0 : goal.returns-then-self-eq0
returns-then-self-eq0 c = λ o h. pop_none _ o h c.if-self-eq0.true

pub returns-in-Loop : goal.returns-in-Loop
returns-in-Loop c = λ o h. pop _ o h c.if-self-eq0.false c.in-Loop.is c.saturating_sub-self.ensures

pub returns-in-Before : goal.returns-in-Before
returns-in-Before c =
    λ o h. ⊎_elim (λ e. pop _ o h c.if-self-eq0.false e refl) (λ e. pop _ o h c.if-self-eq0.false e refl) c.in-Before.is
