-- The kit's digits, and then the end, are the field.
use native.Mathlib.Omega.{arith}
use Rattle.listing.proofs.Putting.{field_wrote}
use Rattle.listing.proofs.writer.Writer.put_field.Goals as goal

pub returns : goal.returns
returns c =
    let d = c.decimal-k.ensures in
    field_wrote d.len (omega arith) d.digits c.put.ensures c.put-2.ensures
