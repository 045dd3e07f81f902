-- At turn k the first k blocks are those of the words behind the seven.
use Rattle.std.proofs.Common.{ℕ, ◌+◌, ◌*◌, arith}
use Rattle.std.proofs.lemmas.List.FromFn.{fill_by_all}
use Rattle.lanes.specs.Blocks.{nesting}
use Rattle.wave.specs.Layout.{block_numbers, no_block}
use Rattle.packing.specs.Words.{hot_words, block_in, blocks_in}
use Rattle.packing.proofs.blocks_of.Goals as goal

pub returns : goal.returns
unfolding blocks_in
returns c =
    let l = c.loop-k in
    fill_by_all (λ (k : ℕ). block_in c.args.words.now (hot_words + block_numbers * k)) _ nesting no_block l.invariant.0
    (λ k h. l.invariant.1 k (omega arith))
