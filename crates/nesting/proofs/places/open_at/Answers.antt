-- The walk of `open_at`: the loop has come to a place with the blocks open that its stack holds (`Walked`).
use native.Mathlib.Omega.{arith}
use mathlib.Core.Path.{refl, ◌∙◌}
use mathlib.Core.List.{[]}
use Rattle.blocks.proofs.Widths.{code_fits}
use Rattle.nesting.proofs.Walks.{further, farther, nothing, arrived, missed}
use Rattle.nesting.proofs.places.open_at.Goals as goal

pub loop-at-init : goal.loop-at-init
loop-at-init c = record { fits = code_fits c.args.code.now.words.now c.args.code.now.reading; blocks = []; holds = c.empty-stack.ensures; same = refl }

pub loop-at-smaller : goal.loop-at-smaller
loop-at-smaller c =
    omega (arith, farther c.loop-at.invariant _ c.loop-at-test.true c.advance.ensures c.in_ok-at.was)

pub loop-at-preserved : goal.loop-at-preserved
loop-at-preserved c = further c.loop-at.invariant _ c.loop-at-test.true c.advance.ensures c.in_ok-at.was

pub returns-in_err-at : goal.returns-in_err-at
returns-in_err-at c =
    c.from_residual.ensures ∙ nothing c.loop-at.invariant _ c.loop-at-test.true c.advance.ensures c.in_err-at.was

pub returns-then-at-place : goal.returns-then-at-place
returns-then-at-place c = arrived c.loop-at.invariant c.if-at-place.true

pub returns-else-at-place : goal.returns-else-at-place
returns-else-at-place c = missed c.loop-at.invariant c.loop-at-test.false c.if-at-place.false
