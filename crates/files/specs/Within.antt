-- What was read stands in the room that was lent.
use Rattle.std.specs.Prelude.{List, ℕ, ◌<◌, ◌≤◌, length, take, Option, Some, None}
use Rattle.std.specs.Io.KnownBytes.{Consumes, IsAtEnd}

abbrev pub Within : Option ℕ → List ℕ → Type 0
Within (Some n) room = n ≤ length room
Within None room = Unit {0}

-- Where a reader's bytes are known: the room begins with the bytes that the reader has no more, and where it is not full, none are left.
abbrev pub IsTakenFrom : Option (List ℕ) → Option (List ℕ) → ℕ → List ℕ → Type 0
IsTakenFrom old new n room = Consumes old new (take n room) × (n < length room → IsAtEnd new)

abbrev pub HoldsWhatWasRead : Option ℕ → Option (List ℕ) → Option (List ℕ) → List ℕ → Type 0
HoldsWhatWasRead (Some n) old new room = IsTakenFrom old new n room
HoldsWhatWasRead None old new room = Unit {0}
