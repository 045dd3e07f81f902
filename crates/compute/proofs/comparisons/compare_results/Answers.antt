-- `compute::comparisons::compare_results` meets its contract: each arm hands its operation to the loop.
use Rattle.std.proofs.Common.{rules}
use mathlib.Core.Bool.{cond}
use Prim.Native.Nat.{ℕ}
use Rattle.instructions.specs.declared.instr.CompareOp.{CompareOp}
use Rattle.arith.specs.Arith.{compare_of}
use Rattle.compute.specs.Lanewise.{compare_lanes}
use Rattle.compute.proofs.comparisons.compare_results.Goals as goal

pub returns-in-Eq : goal.returns-in-Eq
unfolding compare_lanes
returns-in-Eq c = rw c.in-Eq.is (c.two_lanes.ensures (λ (a b : ℕ). cond (compare_of CompareOp.Eq a b) 1 0) (λ a b r x y e. search rules))

pub returns-in-Ne : goal.returns-in-Ne
unfolding compare_lanes
returns-in-Ne c = rw c.in-Ne.is (c.two_lanes-in-Ne.ensures (λ (a b : ℕ). cond (compare_of CompareOp.Ne a b) 1 0) (λ a b r x y e. search rules))

pub returns-in-Lt : goal.returns-in-Lt
unfolding compare_lanes
returns-in-Lt c = rw c.in-Lt.is (c.two_lanes-in-Lt.ensures (λ (a b : ℕ). cond (compare_of CompareOp.Lt a b) 1 0) (λ a b r x y e. search rules))

pub returns-in-Ge : goal.returns-in-Ge
unfolding compare_lanes
returns-in-Ge c = rw c.in-Ge.is (c.two_lanes-in-Ge.ensures (λ (a b : ℕ). cond (compare_of CompareOp.Ge a b) 1 0) (λ a b r x y e. search rules))
