-- `compute::bank::Bank::gather` meets its contract: the rule gives each register as it is.
use mathlib.Core.Path.{◌∙◌}
use Rattle.std.proofs.Common.{rules}
use Rattle.compute.proofs.Lanewise.{gather_again}
use Rattle.compute.proofs.bank.Bank.gather.Goals as goal

pub returns : goal.returns
returns c = c.one_lanes.ensures (λ n. n) (λ n r low e. search rules) ∙ gather_again c.args.self.now.roomy _
