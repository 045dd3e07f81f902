-- The invariant: the count so far and that of the rest come to the whole.
use native.Mathlib.Omega.{arith}
use Rattle.listing.proofs.Lines.{distinct_first, distinct_later, distinct_end}
use Rattle.listing.proofs.table.count_distinct.Goals as goal
use Rattle.listing.proofs.table.count_distinct.Goals.{then-first-k, else-first-k}

pub loop-k-preserved : goal.loop-k-preserved
loop-k-preserved c =
    let g = c.loop-k.invariant in
    let t = c.loop-k-test.true in
    elim c.if-first-k.branch [
      | then-first-k w ↦ (omega arith, rw w.d-is (distinct_first _ _ _ g.1 t w.if-first-k.true))
      | else-first-k w ↦ (omega arith, rw w.d-is (distinct_later _ _ _ g.1 t w.if-first-k.false))
    ]

pub returns : goal.returns
returns c = distinct_end _ _ _ c.loop-k.invariant.1 c.loop-k-test.false
