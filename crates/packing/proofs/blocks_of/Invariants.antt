-- At turn k the first k blocks are those of the words behind the seven.
use Rattle.std.proofs.Common.{◌≡◌, ℕ, ◌+◌, ◌*◌, ◌<◌, length}
use Rattle.lanes.specs.Blocks.{nesting}
use Rattle.wave.specs.Layout.{block_numbers, block_at}
use Rattle.packing.specs.Words.{hot_words, block_in}
use Rattle.packing.proofs.blocks_of.Given as goal

abbrev pub invariant-loop-k : goal.invariant-loop-k
invariant-loop-k l =
    (length l.blocks ≡ nesting) × ((k : ℕ) → k < l.k → block_at l.blocks k ≡ block_in l.words (hot_words + block_numbers * k))
