-- A state's words that count are some of its words.
use Rattle.std.proofs.Common.{length, sym, ap, arith, length-take-le}
use Rattle.packing.specs.Words.{word_count, words_of}
use Rattle.replay_capture.proofs.keeping.keep_state.Goals as goal

pub slice_bounds-words-end : goal.slice_bounds-words-end
unfolding word_count
slice_bounds-words-end g c = omega arith

pub slice_bounds-parts-end : goal.slice_bounds-parts-end
unfolding word_count words_of
slice_bounds-parts-end g c = sym (length-take-le _ _ (omega (arith, ap length c.words_of-words.ensures)))
