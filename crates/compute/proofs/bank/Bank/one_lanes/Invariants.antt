-- `compute::bank::Bank::one_lanes` meets its contract: at turn i the lanes below i have their results.
use Prim.Native.Nat.{ℕ}
use lib.ListN.{get_or}
use Rattle.lanes.proofs.Filling.{Filled}
use Rattle.compute.specs.Registers.{gather_of}
use Rattle.compute.specs.Lanewise.{OfOne}
use Rattle.compute.proofs.bank.Bank.one_lanes.Given as goal

abbrev pub invariant-loop-i : goal.invariant-loop-i
invariant-loop-i g l =
    (h : ℕ → ℕ) → OfOne (goal.F-post g l.rule) h → Filled l.self.shape.width (λ j. (h (get_or (gather_of l.self.shape l.self.regs.now l.rs1) j 0))) l.out l.i
