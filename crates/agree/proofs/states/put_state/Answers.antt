-- The words that count are some of a state's words.
use Rattle.std.proofs.Common.{sym, arith, length-take-le}
use Rattle.packing.specs.Words.{word_count}
use Rattle.agree.proofs.states.put_state.Goals as goal

pub slice_bounds-words-end : goal.slice_bounds-words-end
unfolding word_count
slice_bounds-words-end c = omega arith

pub slice_bounds-put-end : goal.slice_bounds-put-end
unfolding word_count
slice_bounds-put-end c = sym (length-take-le _ _ (omega arith))
