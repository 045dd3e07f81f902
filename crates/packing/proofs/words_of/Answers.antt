-- The seven numbers, and then the words of the blocks.
use Rattle.std.proofs.Common.{◌∙◌}
use Rattle.packing.specs.Words.{words_of}
use Rattle.packing.proofs.words_of.Goals as goal

pub returns : goal.returns
unfolding words_of
returns c = c.put_blocks.ensures ∙ rw c.copy_from_slice.ensures.after
