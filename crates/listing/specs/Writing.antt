-- A step of the proofs: nothing that is said to the reader rests on this file.
-- Text put behind what a writer put before, into the buffer that it was lent.
use Rattle.std.specs.Prelude.{ℕ, ◌≡◌, ◌+◌, ◌≤◌, List, length}
use Rattle.numbers.specs.Placed.{Puts}
use Rattle.listing.specs.Text.{text_room}
use Rattle.listing.specs.declared.writer.Writer.{Writer}

pub record Wrote (text : List ℕ) (old new : Writer) : Type 0 where
  pub same_buffer : new.out.ghost_name ≡ old.out.ghost_name
  -- where its end is no further than that of the longest text
  pub puts : old.at + length text ≤ text_room → Puts old.out.now old.at text new.at new.out.now
