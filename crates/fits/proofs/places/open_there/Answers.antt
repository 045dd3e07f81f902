-- What the code has open at the place, against the first blocks of the array.
use Rattle.fits.proofs.Comparing.{there_tested}
use Rattle.fits.proofs.places.open_there.Goals as goal

pub returns-in-Some : goal.returns-in-Some
returns-in-Some c =
    let s = c.args in
    rw c.same_blocks.ensures (there_tested s.code.now.words.now s.code.now.reading s.state.now.hot s.state.now.blocks c.in-Some.stack c.depth_of-d.ensures c.in-Some.ensures)
