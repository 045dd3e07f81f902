-- No address has another kind.
use borrow.Author.Rules.{rules}
use Rattle.faulting.proofs.FaultKinds.{four_kinds}
use Rattle.faulting.proofs.addresses.Reach.each_kind.Goals as goal

pub returns : goal.returns
returns c =
    four_kinds c.args.width.lanes c.args.t c.args.self.space _ _ _ _ _ _ _
    (search rules) (search rules) (search rules) (search rules)
