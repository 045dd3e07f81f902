-- By what the length's test answers, and then by the room.
use Rattle.std.proofs.lemmas.Result.{err_from_is_err_and}
use Rattle.key.proofs.Bodies.{copy_none, copy_short, copy_long, copy_so}
use Rattle.key.proofs.writing.copy_body.Goals as goal

pub returns-in_err-size : goal.returns-in_err-size
returns-in_err-size c =
    let p = err_from_is_err_and c.from_residual.result c.from_residual.ensures.1 in rw (p.1, p.2) (copy_none _ _ _ c.in_err-size.ensures)

pub returns-then-out-size : goal.returns-then-out-size
returns-then-out-size c = rw c.broken.ensures (copy_short _ _ _ c.in_ok-size.ensures c.if-out-size.true)

pub slice_bounds-put_bytes-end : goal.slice_bounds-put_bytes-end
slice_bounds-put_bytes-end c = copy_long _ _ c.in_ok-size.ensures

pub returns : goal.returns
returns c = copy_so _ _ _ _ c.in_ok-size.ensures c.if-out-size.false c.put_bytes.ensures
