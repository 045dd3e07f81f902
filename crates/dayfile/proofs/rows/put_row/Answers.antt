-- The length is put behind the place: `row_put`.
use Rattle.dayfile.proofs.Filing.{row_put}
use Rattle.dayfile.proofs.rows.put_row.Goals as goal

pub returns : goal.returns
returns c =
    row_put _ _ _ _ c.table_end-row.ensures c.put.ensures c.put-2.ensures
