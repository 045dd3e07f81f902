-- By the file's tests: the table of the records, or the line of a refusal.
use Rattle.std.proofs.Common.{ap}
use Rattle.refusals.specs.declared.Refusal.{Refusal}
use Rattle.listing.proofs.Putting.{wrote_same}
use Rattle.listing.proofs.Texts.{text_long, text_table, text_refused}
use Rattle.listing.proofs.put_text.Goals as goal

pub returns-then-file-gt-MOST_BYTES : goal.returns-then-file-gt-MOST_BYTES
returns-then-file-gt-MOST_BYTES c = wrote_same (text_long _ c.if-file-gt-MOST_BYTES.true) c.put.ensures

pub returns-in-Ok : goal.returns-in-Ok
returns-in-Ok c =
    wrote_same (text_table c.args.file.now c.if-file-gt-MOST_BYTES.false _ c.in-Ok.ensures c.in-Ok.day.accepted) c.put_table.ensures

pub returns-in-Err : goal.returns-in-Err
returns-in-Err c =
    let e = c.in-Err.ensures in
    wrote_same (text_refused c.args.file.now c.if-file-gt-MOST_BYTES.false _ e.0 (ap (λ (x : Refusal). x.number) e.1)) c.put_refusal.ensures
