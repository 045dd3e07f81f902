-- Word by word.
use Rattle.packing.specs.Words.{hot_in}
use Rattle.packing.proofs.hot_of.Goals as goal

pub returns : goal.returns
unfolding hot_in
returns c =
    λ i.
    record {
      place = c.word_at.ensures i;
      active = c.word_at-2.ensures i;
      halted = c.word_at-3.ensures i;
      p1 = c.word_at-4.ensures i;
      p2 = c.word_at-5.ensures i;
      p3 = c.word_at-6.ensures i;
      depth = c.word_at-7.ensures i;
    }
