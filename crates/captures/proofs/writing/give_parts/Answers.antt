-- Header and words, put one behind another, are the file.
use Rattle.captures.proofs.Laid.{laid}
use Rattle.captures.proofs.writing.give_parts.Goals as goal

pub returns : goal.returns
returns c =
    laid _ _ _ _ _ _ _ c.requires _ c.places_of-at.ensures _ _ _ _ _ _ _ c.put_words.ensures.0
    c.put_words-2.ensures.0 c.put_words-3.ensures.0 c.put_words-4.ensures.0 c.put_words-5.ensures.0 c.put_words-6.ensures.0
