-- At turn k the first words are the seven as lent and then those of k blocks.
use Rattle.std.proofs.Common.{◌≡◌, ◌++◌, ◌+◌, ◌*◌, length, take}
use Rattle.std.specs.List.{flat_map}
use Rattle.wave.specs.Layout.{block_numbers}
use Rattle.packing.specs.Words.{hot_words, state_words, block_words}
use Rattle.packing.proofs.put_blocks.Given as goal

abbrev pub invariant-loop-k : goal.invariant-loop-k
invariant-loop-k l =
    (length l.words ≡ state_words)
    × (take (hot_words + block_numbers * l.k) l.words ≡ take hot_words l.initial.words ++ flat_map block_words (take l.k l.blocks))
