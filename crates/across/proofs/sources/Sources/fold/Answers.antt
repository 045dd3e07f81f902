-- `across::sources::Sources::fold` meets its contract: at each turn it is what the executing lanes below make.
use Rattle.across.proofs.Folding.{fold_none, fold_more}
use Rattle.across.proofs.sources.Sources.fold.Goals as goal

pub loop-lane-init : goal.loop-lane-init
loop-lane-init g c = (c.ranges.idle.fits, λ o joins. fold_none o _ _ _)

pub loop-lane-preserved : goal.loop-lane-preserved
loop-lane-preserved g c =
    let h = c.loop-lane.invariant in (
      c.join-made.type_inv,
      λ o joins. fold_more o _ _ _ _ _ _ _ (h.1 o joins) c.bring.ensures (joins _ _ _ h.0 c.bring.type_inv c.join-made.ensures),
    )
