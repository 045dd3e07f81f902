-- A depth over 32 is read as 32.
use mathlib.Core.Path.{ap}
use Rattle.packing.specs.Words.{state_size, word_count}
use Rattle.packing.proofs.word_count.Goals as goal

pub returns : goal.returns
unfolding word_count
returns c = ap state_size c.depth_of.ensures
