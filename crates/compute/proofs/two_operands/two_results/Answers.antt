-- `compute::two_operands::two_results` meets its contract: each arm hands its operation to the loop.
use Rattle.std.proofs.Common.{rules}
use Rattle.instructions.specs.declared.instr.TwoOp.{TwoOp}
use Rattle.arith.specs.Arith.{two_of}
use Rattle.compute.specs.Lanewise.{two_lanes}
use Rattle.compute.proofs.two_operands.two_results.Goals as goal

pub returns-in-Add : goal.returns-in-Add
unfolding two_lanes
returns-in-Add c = rw c.in-Add.is (c.two_lanes.ensures (two_of TwoOp.Add) (λ a b r x y e. search rules))

pub returns-in-Sub : goal.returns-in-Sub
unfolding two_lanes
returns-in-Sub c = rw c.in-Sub.is (c.two_lanes-in-Sub.ensures (two_of TwoOp.Sub) (λ a b r x y e. search rules))

pub returns-in-Mul : goal.returns-in-Mul
unfolding two_lanes
returns-in-Mul c = rw c.in-Mul.is (c.two_lanes-in-Mul.ensures (two_of TwoOp.Mul) (λ a b r x y e. search rules))

pub returns-in-Div : goal.returns-in-Div
unfolding two_lanes
returns-in-Div c = rw c.in-Div.is (c.two_lanes-in-Div.ensures (two_of TwoOp.Div) (λ a b r x y e. search rules))

pub returns-in-Udiv : goal.returns-in-Udiv
unfolding two_lanes
returns-in-Udiv c = rw c.in-Udiv.is (c.two_lanes-in-Udiv.ensures (two_of TwoOp.Udiv) (λ a b r x y e. search rules))

pub returns-in-Rem : goal.returns-in-Rem
unfolding two_lanes
returns-in-Rem c = rw c.in-Rem.is (c.two_lanes-in-Rem.ensures (two_of TwoOp.Rem) (λ a b r x y e. search rules))

pub returns-in-Urem : goal.returns-in-Urem
unfolding two_lanes
returns-in-Urem c = rw c.in-Urem.is (c.two_lanes-in-Urem.ensures (two_of TwoOp.Urem) (λ a b r x y e. search rules))

pub returns-in-Min : goal.returns-in-Min
unfolding two_lanes
returns-in-Min c = rw c.in-Min.is (c.two_lanes-in-Min.ensures (two_of TwoOp.Min) (λ a b r x y e. search rules))

pub returns-in-Max : goal.returns-in-Max
unfolding two_lanes
returns-in-Max c = rw c.in-Max.is (c.two_lanes-in-Max.ensures (two_of TwoOp.Max) (λ a b r x y e. search rules))

pub returns-in-Mulhi : goal.returns-in-Mulhi
unfolding two_lanes
returns-in-Mulhi c = rw c.in-Mulhi.is (c.two_lanes-in-Mulhi.ensures (two_of TwoOp.Mulhi) (λ a b r x y e. search rules))

pub returns-in-And : goal.returns-in-And
unfolding two_lanes
returns-in-And c = rw c.in-And.is (c.two_lanes-in-And.ensures (two_of TwoOp.And) (λ a b r x y e. search rules))

pub returns-in-Or : goal.returns-in-Or
unfolding two_lanes
returns-in-Or c = rw c.in-Or.is (c.two_lanes-in-Or.ensures (two_of TwoOp.Or) (λ a b r x y e. search rules))

pub returns-in-Xor : goal.returns-in-Xor
unfolding two_lanes
returns-in-Xor c = rw c.in-Xor.is (c.two_lanes-in-Xor.ensures (two_of TwoOp.Xor) (λ a b r x y e. search rules))

pub returns-in-Shl : goal.returns-in-Shl
unfolding two_lanes
returns-in-Shl c = rw c.in-Shl.is (c.two_lanes-in-Shl.ensures (two_of TwoOp.Shl) (λ a b r x y e. search rules))

pub returns-in-Shr : goal.returns-in-Shr
unfolding two_lanes
returns-in-Shr c = rw c.in-Shr.is (c.two_lanes-in-Shr.ensures (two_of TwoOp.Shr) (λ a b r x y e. search rules))

pub returns-in-Sar : goal.returns-in-Sar
unfolding two_lanes
returns-in-Sar c = rw c.in-Sar.is (c.two_lanes-in-Sar.ensures (two_of TwoOp.Sar) (λ a b r x y e. search rules))
