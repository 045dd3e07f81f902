-- The parts stand one behind another.
use native.Mathlib.Omega.{arith}
use Rattle.key.proofs.Bodies.{body_put}
use Rattle.key.proofs.Drafting.{put_counted}
use Rattle.key.proofs.Paths.{first_blocks, length-blocks}
use Rattle.key.proofs.putting.body_of.Goals as goal

pub returns : goal.returns
returns c =
    let a = c.args in
    let n = length-blocks a.state in
    let blocks = rw (first_blocks a.state (omega arith)) at c.put_blocks.ensures in
    rw c.new-draft.ensures at
    (body_put a.kernel a.f a.state c.put.ensures c.put-2.ensures (put_counted c.count_of.ensures c.put-3.ensures c.put_kinds.ensures) c.put-4.ensures
    c.put-5.ensures (put_counted (omega arith) c.put-6.ensures blocks))
