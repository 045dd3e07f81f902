-- At turn k the first words are the seven as lent and then those of k blocks.
use Rattle.std.proofs.Common.{take, arith}
use Rattle.packing.specs.Words.{hot_words}
use Rattle.packing.proofs.Written.{written_more, written_all}
use Rattle.packing.proofs.put_blocks.Goals as goal

pub loop-k-preserved : goal.loop-k-preserved
loop-k-preserved c =
    let l = c.loop-k in
    let s = c.args in
    written_more (take hot_words s.words.now) s.blocks.now l.words _ l.k _ (omega (arith, c.loop-k-test.true, c.told-blocks)) c.told-blocks l.invariant.0 l.invariant.1 c.copy_from_slice.ensures.after (omega arith)

pub returns : goal.returns
returns c =
    let l = c.loop-k in
    let s = c.args in
    written_all (take hot_words s.words.now) s.blocks.now _ l.k c.told-blocks c.loop-k-test.false l.invariant.0 l.invariant.1
