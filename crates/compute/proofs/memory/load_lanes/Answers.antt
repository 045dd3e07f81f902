-- `compute::memory::load_lanes` meets its contract: each lane has its word.
use Rattle.std.proofs.Common.{rules}
use Rattle.compute.specs.Memory.{word_at}
use Rattle.compute.specs.Lanewise.{load_lanes}
use Rattle.compute.proofs.memory.load_lanes.Goals as goal

pub returns : goal.returns
unfolding load_lanes
returns c = c.each_lane.ensures (word_at c.args.at.now c.args.memory.now) (λ i r b e. search rules)
