-- The row of a record names its bytes.
use Rattle.std.proofs.Common.{arith}
use Rattle.dayfile.proofs.Layouts.{page_lawful}
use Rattle.records.proofs.Records.{file_room, record_here, body_here, body_whole}
use Rattle.records.proofs.day.DayFile.body_at.Goals as goal

pub overflow_cast-row : goal.overflow_cast-row
overflow_cast-row c = omega (arith, file_room page_lawful _ c.args.self.now.accepted, c.requires)

pub overflow_add-end : goal.overflow_add-end
overflow_add-end c =
    omega (arith, (record_here page_lawful _ c.args.self.now.accepted c.requires c.record_place-place.ensures c.record_length.ensures).inside)

pub slice_bounds-result-end : goal.slice_bounds-result-end
slice_bounds-result-end c = (record_here page_lawful _ c.args.self.now.accepted c.requires c.record_place-place.ensures c.record_length.ensures).inside

pub invariant_of-result : goal.invariant_of-result
invariant_of-result c = record {
  whole = body_whole _ c.args.self.now.accepted c.requires c.record_place-place.ensures c.record_length.ensures;
}

pub returns : goal.returns
returns c = body_here page_lawful _ c.args.self.now.accepted c.requires c.record_place-place.ensures c.record_length.ensures
