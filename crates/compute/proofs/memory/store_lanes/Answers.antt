-- `compute::memory::store_lanes` meets its contract: at turn i the lanes below i have stored.
use native.Mathlib.Omega.{arith}
use Rattle.ground.proofs.Turns.{turned_none, turned_more, turned_all}
use Rattle.compute.specs.Memory.{changes_of}
use Rattle.compute.proofs.Changing.{store_turn}
use Rattle.compute.proofs.memory.store_lanes.Invariants.{value}
use Rattle.compute.proofs.memory.store_lanes.Goals as goal

pub loop-i-init : goal.loop-i-init
loop-i-init c = turned_none _ _

pub loop-i-preserved : goal.loop-i-preserved
loop-i-preserved c =
    let h = c.loop-i in
    let a = c.args in
    turned_more h.invariant (omega arith) _
    (store_turn a.at.now (value a.bank.now.shape a.bank.now.regs.now a.rd) a.t _ h.memory _ _ _ c.picks.ensures
    c.at.ensures c.put_picked.ensures)

pub returns : goal.returns
unfolding changes_of
returns c = turned_all c.loop-i.invariant (omega arith)
