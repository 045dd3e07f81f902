-- The outward search. The invariant: from here it finds the same loop and marks the same blocks as from the innermost block.
use Rattle.std.proofs.Common.{◌≡◌, suc, ◌-◌, ◌∙◌, arith, length-set}
use Rattle.control.proofs.Walks.{walk_past, walk_at, number_past, number_at, walked_over}
use Rattle.control.proofs.rules.aside.leave_inner.Goals as goal

pub loop-i-preserved : goal.loop-i-preserved
loop-i-preserved c =
    let l = c.loop-i in
    let here : l.i ≡ suc (l.i - 1) = omega (arith, c.if-i-eq0.false) in (
      omega arith,
      simp length-set l.invariant.1,
      number_past l.blocks _ (l.i - 1) l.i here c.if-blocks-i-eq-LOOP.false ∙ l.invariant.2,
      walk_past c.args.t l.blocks (l.i - 1) l.i here (omega arith) c.if-blocks-i-eq-LOOP.false ∙ l.invariant.3,
    )

pub returns-then-blocks-i-eq-LOOP : goal.returns-then-blocks-i-eq-LOOP
returns-then-blocks-i-eq-LOOP c =
    let l = c.loop-i in
    let s = c.args in
    let here : l.i ≡ suc (l.i - 1) = omega (arith, c.if-i-eq0.false) in
    rw (← c.depth_of-i.ensures) (record {
      number = number_at l.blocks (l.i - 1) l.i here c.if-blocks-i-eq-LOOP.true ∙ l.invariant.2;
      room = omega arith;
      left = walk_at s.t l.blocks (l.i - 1) l.i here (omega arith) c.if-blocks-i-eq-LOOP.true ∙ l.invariant.3 ∙ walked_over s.t s.blocks.now _;
    })

pub returns-then-i-eq0 : goal.returns-then-i-eq0
returns-then-i-eq0 c =
    let l = c.loop-i in
    let s = c.args in
    rw (← c.depth_of-i.ensures) (record {
      number = rw c.if-i-eq0.true at l.invariant.2;
      room = tt;
      left = (rw c.if-i-eq0.true at l.invariant.3) ∙ walked_over s.t s.blocks.now _;
    })
