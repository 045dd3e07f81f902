-- The records are counted, and their first equal ones are in the array. Head, lines and total, put one behind another, are the table.
use Rattle.std.proofs.Common.{refl, sym, ap, List, ℕ}
use lib.Seq.{length-take-le}
use Rattle.dayfile.specs.Day.{page, bodies_of}
use Rattle.listing.specs.Text.{table_text}
use Rattle.listing.proofs.Putting.{wrote_same}
use Rattle.listing.proofs.Texts.{table_wrote, firsts_counted, never_refused}
use Rattle.listing.proofs.table.put_table.Goals as goal

pub returns-in_default : goal.returns-in_default
returns-in_default c = absurd (never_refused c.args.day.now.bytes.now _ c.args.day.now.accepted refl c.firsts.ensures _ c.in_default.is)

pub slice_bounds-room-end : goal.slice_bounds-room-end
slice_bounds-room-end c = (firsts_counted c.args.day.now.bytes.now _ c.args.day.now.accepted refl c.firsts.ensures _ c.in-Ok.is).within

pub slice_bounds-firsts-end-2 : goal.slice_bounds-firsts-end-2
slice_bounds-firsts-end-2 c = sym (length-take-le _ _ (firsts_counted c.args.day.now.bytes.now _ c.args.day.now.accepted refl c.firsts.ensures _ c.in-Ok.is).within)

pub put_lines-requires : goal.put_lines-requires
put_lines-requires c = (firsts_counted c.args.day.now.bytes.now _ c.args.day.now.accepted refl c.firsts.ensures _ c.in-Ok.is).firsts

pub returns : goal.returns
returns c =
    let k = firsts_counted c.args.day.now.bytes.now _ c.args.day.now.accepted refl c.firsts.ensures _ c.in-Ok.is in
    wrote_same (ap (λ (l : List ℕ). table_text l (bodies_of page c.args.day.now.bytes.now)) k.firsts)
    (table_wrote _ _ c.count_distinct.ensures c.put.ensures c.put_lines.ensures c.put_total.ensures)
