-- The invariant: what the test said so far and what it says of the blocks further out is what it says of all.
use mathlib.Core.Path.{refl, ◌∙◌}
use native.Mathlib.Omega.{arith}
use Rattle.fits.proofs.Testing.{test_next}
use Rattle.fits.proofs.sets.sets_fit.Goals as goal

pub loop-i-preserved : goal.loop-i-preserved
loop-i-preserved c = let l = c.loop-i in
    let s = c.args in (
      omega arith,
      test_next s.all s.state.now.hot.halted l.inner _ s.state.now.blocks l.ok _ l.i _ (omega arith) refl
          c.block_fits-ok.ensures c.with_aside-inner.ensures ∙ l.invariant.1,
    )
