-- The record's number, and then what the table and the search say.
use Rattle.std.proofs.Common.{arith}
use Rattle.dayfile.proofs.Layouts.{page_lawful}
use Rattle.records.proofs.Records.{file_room, read_zero, read_past, read_so}
use Rattle.records.proofs.day.DayFile.record.Goals as goal

pub returns-then-i-eq0 : goal.returns-then-i-eq0
returns-then-i-eq0 c = rw c.broken.ensures (read_zero _ _ _ c.args.self.now.accepted c.if-i-eq0.true)

pub returns-then-count-i : goal.returns-then-count-i
returns-then-count-i c =
    rw c.broken-then-count-i.ensures
    (read_past _ _ _ c.args.self.now.accepted c.if-i-eq0.false (omega (arith, c.count.ensures, c.if-count-i.true)))

pub overflow_cast-row : goal.overflow_cast-row
overflow_cast-row c = omega (arith, file_room page_lawful _ c.args.self.now.accepted, c.count.ensures, c.if-count-i.false)

pub returns : goal.returns
returns c =
    read_so _ _ _ c.args.self.now.accepted c.if-i-eq0.false (omega (arith, c.count.ensures, c.if-count-i.false)) c.record_place.ensures
    c.record_length.ensures c.first_same.ensures
