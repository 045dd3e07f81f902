-- The pieces, put one behind another, are the line.
use Rattle.listing.proofs.Lines.{line_wrote}
use Rattle.listing.proofs.table.put_line.Goals as goal

pub returns : goal.returns
returns c =
    line_wrote _ _ _ c.kernel.ensures c.place.ensures c.depth.ensures c.put_field.ensures c.put_field-2.ensures c.put_field-3.ensures
    c.put_field-4.ensures c.put_kinds.ensures c.put_field-5.ensures
