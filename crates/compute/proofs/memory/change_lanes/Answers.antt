-- `compute::memory::change_lanes` meets its contract: the lanes take their turns from the lowest on, and what each found stands in the
-- answer.
use mathlib.Core.Path.{◌≡◌, ap, ap₂, ◌∙◌}
use Prim.Native.Nat.{ℕ, ◌<◌, ◌≤◌}
use native.Mathlib.Omega.{arith}
use lib.ListN.{set}
use Rattle.lanes.specs.Sets.{lowest, widest}
use Rattle.lanes.proofs.LowestLanes.{Waiting, waiting_lowest, waiting_fewer}
use Rattle.compute.specs.Memory.{word_at}
use Rattle.compute.specs.Lanewise.{change_of}
use Rattle.compute.proofs.Walking.{walked_none, walked_more, walked_all}
use Rattle.compute.proofs.memory.change_lanes.Goals as goal

-- the lane whose turn it is is one of the widest wave's
narrow : {n t rest i k : ℕ} → Waiting n t rest i → n ≤ widest → 0 < rest → k ≡ lowest widest rest → k < widest
narrow h b l e = omega (arith, (waiting_lowest h widest _ b l e).low)

pub loop-rest-init : goal.loop-rest-init
loop-rest-init c = walked_none _ _ _ _ _ _ c.args.bank.now.roomy.narrow c.meet-rest.ensures c.first.ensures

pub at-operand-requires : goal.at-operand-requires
at-operand-requires c =
    let here = waiting_lowest c.loop-rest.invariant.waiting widest _ c.args.bank.now.roomy.narrow (omega arith) c.lowest-i.ensures in
    record { below = here.low; low = c.requires.0 }

pub at-desired-requires : goal.at-desired-requires
at-desired-requires c =
    let here = waiting_lowest c.loop-rest.invariant.waiting widest _ c.args.bank.now.roomy.narrow (omega arith) c.lowest-i.ensures in
    record { below = here.low; low = c.requires.1 }

pub loop-rest-smaller : goal.loop-rest-smaller
loop-rest-smaller c =
    waiting_fewer c.loop-rest.invariant.waiting _ _ _ c.without-rest.ensures c.marked.ensures
    (waiting_lowest c.loop-rest.invariant.waiting widest _ c.args.bank.now.roomy.narrow (omega arith) c.lowest-i.ensures)

pub loop-rest-preserved : goal.loop-rest-preserved
loop-rest-preserved c =
    let here = waiting_lowest c.loop-rest.invariant.waiting widest _ c.args.bank.now.roomy.narrow (omega arith) c.lowest-i.ensures in
    walked_more c.loop-rest.invariant widest _ _ _ _ _ c.lowest-i.ensures here c.change_word.ensures.found
    (c.change_word.ensures.left
    ∙ ap (set c.loop-rest.memory _)
    (ap₂ (λ (x y : ℕ). change_of c.args.change (word_at c.args.at.now c.loop-rest.memory c.lowest-i.result) x y)
    c.at-operand.ensures c.at-desired.ensures))
    c.without-rest.ensures c.marked.ensures

pub returns : goal.returns
returns c = let h = walked_all _ c.loop-rest.invariant (omega arith) in record { found = h.0; left = h.1 }
