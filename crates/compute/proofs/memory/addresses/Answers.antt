-- `compute::memory::addresses` meets its contract: each lane has its address.
use Rattle.std.proofs.Common.{rules}
use Prim.Native.Nat.{ℕ}
use Rattle.arith.specs.Arith.{address_of}
use Rattle.compute.proofs.memory.addresses.Goals as goal

pub returns : goal.returns
returns c = c.one_lanes.ensures (λ (base : ℕ). address_of base c.args.offset) (λ base r low e. search rules)
