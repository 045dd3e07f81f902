-- The pieces, put one behind another, are the last line.
use Rattle.listing.proofs.Texts.{total_wrote}
use Rattle.listing.proofs.table.put_total.Goals as goal

pub returns : goal.returns
returns c = total_wrote _ _ c.put.ensures c.put_field.ensures c.put-2.ensures c.put_field-2.ensures
