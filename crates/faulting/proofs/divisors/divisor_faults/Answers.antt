-- `faulting::divisors::divisor_faults` meets its contract: the test of the divisors tells the faults.
use mathlib.Core.Path.{◌∙◌}
use lib.Dec.{eqb}
use lib.ListN.{get_or}
use borrow.Author.Rules.{rules}
use Rattle.faulting.proofs.FaultKinds.{divisor_kinds, narrow_kinds}
use Rattle.faulting.proofs.divisors.divisor_faults.Goals as goal

pub returns : goal.returns
returns c =
    let a = c.args in
    c.of_divisors.ensures
    ∙ divisor_kinds c.of.result.lanes a.t (λ i. get_or a.divisors i 0) _ (c.lanes_where.ensures (λ n. eqb n 0) (λ n r b e. search rules))
    ∙ narrow_kinds a.width a.t _ c.of.result.lanes c.of.ensures c.ranges.t.fits
