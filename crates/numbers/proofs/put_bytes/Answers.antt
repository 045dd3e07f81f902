-- Turn by turn one byte less is left, and none where the bytes or the room end.
use mathlib.Core.Path.{◌∙◌}
use native.Mathlib.Omega.{arith}
use Rattle.numbers.proofs.Placing.{placed_from, placed_next, placed_room_end}
use Rattle.numbers.proofs.put_bytes.Goals as goal

pub loop-k-init : goal.loop-k-init
loop-k-init c = placed_from _ _ _ _ c.min-start.ensures

pub loop-k-preserved : goal.loop-k-preserved
loop-k-preserved c =
    let l = c.loop-k in
    placed_next l.out c.args.bytes.now c.min-start.result l.k (omega (arith, c.min-count.ensures, c.loop-k-test.true)) ∙ l.invariant

pub returns : goal.returns
returns c =
    let l = c.loop-k in
    placed_room_end l.out c.args.bytes.now c.min-start.result l.k (omega (arith, c.min-count.ensures, c.loop-k-test.false, l.auto.out)) ∙ l.invariant
