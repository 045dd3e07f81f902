-- The test of each address is the one of the definition.
use lib.Dec.{eqb}
use borrow.Author.Rules.{rules}
use Rattle.faulting.specs.Causes.{sum_fault, base_of, fault_lanes}
use Rattle.faulting.specs.AddressKinds.{number}
use Rattle.faulting.proofs.addresses.Reach.lanes_of.Goals as goal

pub returns : goal.returns
unfolding fault_lanes
returns c =
    let r = c.args.self in
    c.lanes_where.ensures (λ address. eqb (sum_fault r.space r.words (base_of address r.offset) r.offset) (number c.args.kind)) (λ n r b e. search rules)
