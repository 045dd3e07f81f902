-- The hot numbers after an instruction are those of the wave gone on, whatever stands in the array.
use Rattle.wave.proofs.HotNumbers.{onward_hot}
use Rattle.wave.proofs.going.onward_by.Goals as goal

pub returns : goal.returns
returns c xs = let s = c.args in onward_hot s.h s.size _ _ xs c.wrapping_add_u32.ensures.value c.depth_of.ensures
