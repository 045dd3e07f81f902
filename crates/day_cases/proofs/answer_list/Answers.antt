-- The text's length is at most the buffer's.
use mathlib.Core.Path.{◌≡◌, sym}
use native.Mathlib.Omega.{arith}
use lib.ListN.{length}
use lib.Seq.{length-take-le}
use Rattle.day_cases.proofs.answer_list.Goals as goal

pub slice_bounds-write_all-end : goal.slice_bounds-write_all-end
slice_bounds-write_all-end c =
    let t = c.list-n.new.out in
    let l : length t ≡ 176000 = c.list-n.auto.out in
    sym (length-take-le _ t (omega arith))
