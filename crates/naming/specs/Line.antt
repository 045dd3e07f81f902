-- A step of the proofs: nothing that is said to the reader rests on this file.
-- A line of text that bytes are added to, as far as they fit.
use Rattle.std.specs.Prelude.{◌≡◌, ℕ, List, ◌++◌, take}
use Rattle.texts.specs.Text.{text_room}

-- a line held `old`, and text was added to it, as far as a line reaches
pub record Adds (old text new : List ℕ) : Type 0 where
  pub holds : take text_room new ≡ take text_room (old ++ text)
