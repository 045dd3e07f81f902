-- The bytes gone through are added to those that stood there; the room stays as long as it is.
use mathlib.Core.Path.{◌≡◌}
use Prim.Native.Nat.{◌≤◌}
use lib.ListN.{length, take}
use Rattle.texts.specs.Text.{text_room}
use Rattle.naming.specs.Line.{Adds}
use Rattle.naming.proofs.line.Line.put_bytes.Given as goal

abbrev pub invariant-loop-byte : goal.invariant-loop-byte
invariant-loop-byte l =
    (l.end ≤ text_room) × (length l.self-inside.bytes ≡ text_room) × Adds l.fn.self (take l.byte-index l.text) (take l.end l.self-inside.bytes)
