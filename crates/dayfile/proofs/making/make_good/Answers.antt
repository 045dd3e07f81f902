-- The count and the bodies are put, and behind the count the rows of these bodies: that is the file.
use Rattle.dayfile.proofs.Layouts.{page_lawful}
use Rattle.dayfile.proofs.Filing.{made_not, made_lying, made_so}
use Rattle.dayfile.proofs.making.make_good.Goals as goal

pub returns-then-out-total : goal.returns-then-out-total
returns-then-out-total c = rw c.broken.ensures (made_not page_lawful _ c.requires c.table_end-end.ensures c.if-out-total.true)

pub put_table-requires : goal.put_table-requires
put_table-requires c =
    (_, made_lying page_lawful _ c.requires c.table_end-end.ensures c.if-out-total.false c.put.ensures c.put_bytes.ensures)

pub returns : goal.returns
returns c =
    made_so page_lawful _ c.requires c.table_end-end.ensures c.if-out-total.false c.put.ensures c.put_bytes.ensures
    c.put_table.ensures
