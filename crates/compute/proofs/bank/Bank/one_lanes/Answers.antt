-- `compute::bank::Bank::one_lanes` meets its contract: at turn i the lanes below i have their results.
use mathlib.Core.Path.{ap, ◌∙◌}
use native.Mathlib.Omega.{arith}
use Rattle.lanes.proofs.Filling.{filled_none, filled_more, filled_all}
use Rattle.compute.proofs.bank.Bank.one_lanes.Goals as goal

pub loop-i-init : goal.loop-i-init
loop-i-init g c h is = filled_none _ c.args.self.now.roomy.narrow

pub loop-i-preserved : goal.loop-i-preserved
loop-i-preserved g c h is =
    filled_more (c.loop-i.invariant h is) (omega arith) _ (is _ _ (omega arith) c.rule.ensures ∙ ap h c.at.ensures)

pub returns : goal.returns
returns g c h is = filled_all (c.loop-i.invariant h is) (omega arith)
