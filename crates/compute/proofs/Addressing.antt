-- A lane's address; that the faults told by the addresses are those of the bases and the offset; and the faults of an atomic, which has no
-- offset.
use mathlib.Core.Path.{◌≡◌, ap, ◌∙◌}
use mathlib.Core.List.{List}
use Prim.Native.Nat.{ℕ, ◌^◌, ◌≤◌, ◌<◌}
use lib.ListN.{length, get_or}
use Rattle.lanes.specs.Sets.{widest}
use Rattle.instructions.specs.declared.instr.Space.{Space}
use Rattle.instructions.specs.declared.instr.Instr.{Instr}
use Rattle.arith.specs.Arith.{address_of}
use Rattle.faulting.specs.declared.faults.Faults.{Faults}
use Rattle.faulting.specs.Causes.{address_fault, sum_fault, base_of, kinds_of, address_faults}
use Rattle.faulting.proofs.FaultKinds.{kinds_same}
use Rattle.faulting.proofs.Wrapping.{base_told, no_offset}
use Rattle.compute.specs.declared.Shape.{Shape}
use Rattle.compute.specs.Registers.{slot_in, gather_of}
use Rattle.compute.specs.Memory.{addresses_of}
use Rattle.compute.specs.Classes.{reached, reach_faults}
use Rattle.lanes.proofs.Filling.{get_d_by_lane}
use Rattle.compute.proofs.Lanewise.{get_d_gather}

-- of a base and an offset
pub address_at : (W : ℕ) (bases : List ℕ) (offset i : ℕ) → i < W → W ≤ widest → get_or (addresses_of W bases offset) i 0 ≡ address_of (get_or bases i 0) offset
address_at W bases offset i b n = get_d_by_lane W _ i b n

-- registers that are numbers of 32 bits, of so many lanes
module _ (s : Space) (shape : Shape) (regs : List ℕ) (low : (k : ℕ) → get_or regs k 0 < 2 ^ 32) (narrow : shape.width ≤ widest) where
  gathered_low : (r i : ℕ) → i < shape.width → get_or (gather_of shape regs r) i 0 < 2 ^ 32
  gathered_low r i b = rw (get_d_gather shape regs r i b narrow) (low (slot_in shape i r))

  -- a load's faults, or a store's
  pub reach_told : (x : Instr) (t : ℕ) (memory : List ℕ) → x.number < 2 ^ 32 → (at : List ℕ) → at ≡ reached shape x regs
      → (f : Faults) → f ≡ address_faults s shape.width at x.number (length memory) t → f ≡ reach_faults s shape x t regs memory
  reach_told x t memory offset at e f told =
      let W = shape.width in
      let bases = gather_of shape regs x.rs1 in
      told ∙ ap (λ (l : List ℕ). address_faults s W l x.number (length memory) t) e
      ∙ kinds_same W t _ _
      (λ i b.
      ap (λ (n : ℕ). sum_fault s (length memory) n x.number)
      (ap (λ (n : ℕ). base_of n x.number) (address_at W bases x.number i b narrow)
      ∙ base_told (get_or bases i 0) x.number (gathered_low x.rs1 i b) offset))

  -- an atomic's
  pub faults_alone : (r words t : ℕ) → address_faults s shape.width (gather_of shape regs r) 0 words t
      ≡ kinds_of shape.width t (λ i. address_fault s words (get_or (gather_of shape regs r) i 0))
  faults_alone r words t =
      kinds_same shape.width t _ _ (λ i b. no_offset s words (get_or (gather_of shape regs r) i 0) (gathered_low r i b))
