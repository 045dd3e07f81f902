-- Part by part.
use Rattle.packing.specs.Words.{state_in}
use Rattle.packing.proofs.state_of.Goals as goal

pub returns : goal.returns
unfolding state_in
returns c = λ i. record { hot = c.hot_of-hot.ensures i; blocks = c.blocks_of-blocks.ensures i }
