-- A step of the proofs: nothing that is said to the reader rests on this file.
-- The most bytes of each piece of a text.
use Rattle.std.specs.Prelude.{ℕ, ◌+◌, ◌*◌}
use Rattle.body.specs.Layout.{most_kinds}
use Rattle.listing.specs.Decimal.{most_places}

-- a number and its end
abbrev pub field_bytes : ℕ
field_bytes = most_places + 1

-- the kinds of a fault
abbrev pub kinds_bytes : ℕ
kinds_bytes = field_bytes * most_kinds

-- the line of a record: five fields beside the kinds
abbrev pub line_bytes : ℕ
line_bytes = field_bytes * 5 + kinds_bytes

-- the last line: its words, and two fields
abbrev pub total_bytes : ℕ
total_bytes = 15 + field_bytes * 2
