-- The part that is lent is as long as the room.
use mathlib.Core.Path.{sym}
use native.Mathlib.Omega.{arith}
use lib.Seq.{length-take-le}
use Rattle.day_cases.proofs.answer_make_in.Goals as goal

pub slice_bounds-answer_make-end : goal.slice_bounds-answer_make-end
slice_bounds-answer_make-end c =
    let e = c.marked_buffer-buffer.ensures in
    sym (length-take-le _ c.marked_buffer-buffer.result (omega arith))
