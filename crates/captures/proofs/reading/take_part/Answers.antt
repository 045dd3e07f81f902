-- The front of the buffer has room for the words, or for as many as it is long, and is filled with them.
use Rattle.captures.proofs.Accepted.{part_taken}
use Rattle.captures.proofs.reading.take_part.Goals as goal

pub returns : goal.returns
returns c = part_taken _ _ _ _ _ _ c.min-count.ensures c.get_words.ensures
