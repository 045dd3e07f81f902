-- `compute::memory::store_lanes` meets its contract: at turn i the lanes below i have stored.
use mathlib.Core.List.{List}
use Prim.Native.Nat.{ℕ}
use lib.ListN.{get_or}
use Rattle.ground.proofs.Turns.{Turned}
use Rattle.compute.specs.declared.Shape.{Shape}
use Rattle.compute.specs.Registers.{gather_of}
use Rattle.compute.specs.Memory.{change_turn}
use Rattle.compute.proofs.memory.store_lanes.Given as goal

-- what lane i stores
abbrev pub value : Shape → List ℕ → ℕ → ℕ → ℕ
value shape regs rd i = get_or (gather_of shape regs rd) i 0

abbrev pub invariant-loop-i : goal.invariant-loop-i
invariant-loop-i l = Turned l.bank.shape.width (change_turn l.at (λ i old. value l.bank.shape l.bank.regs.now l.rd i) l.t) l.initial.memory l.memory l.i
