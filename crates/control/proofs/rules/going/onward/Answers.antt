-- NOP goes one word on and leaves the array as it was.
use Rattle.control.proofs.Ruling.{onward_does}
use Rattle.control.proofs.rules.going.onward.Goals as goal

pub returns : goal.returns
returns c = let s = c.args in onward_does s.h 1 s.blocks.now _ c.told-blocks c.onward_by.ensures
