-- The invariant: the lines that are left, put behind, give all.
use Prim.Native.Nat.{◌+◌}
use lib.ListN.{drop}
use Rattle.dayfile.specs.Day.{page, bodies_of}
use Rattle.listing.specs.Text.{lines}
use Rattle.listing.proofs.Putting.{Left}
use Rattle.listing.proofs.table.put_lines.Given as goal

abbrev pub invariant-loop-k : goal.invariant-loop-k
invariant-loop-k l =
    let bodies = bodies_of page l.day.bytes.now in
    Left (lines 1 l.firsts bodies) (lines (l.k + 1) (drop l.k l.firsts) (drop l.k bodies)) l.initial.writer l.writer
