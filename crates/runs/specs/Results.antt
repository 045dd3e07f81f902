-- One instruction said of one lane: its result, and what the lanes make of a memory one after another, of the registers and memories as they
-- were before the instruction. Page 01, "One step".
use Rattle.std.specs.Prelude.{ℕ, ◌<◌, ◌≡◌, true, cond, List, get_or, set}
use Rattle.ground.specs.Lists.{in_order}
use Rattle.lanes.specs.Sets.{has}
use Rattle.instructions.specs.declared.instr.AtomicOp.{AtomicOp}
use Rattle.instructions.specs.declared.instr.Space.{Space}
use Rattle.instructions.specs.declared.instr.Op.{Op}
use Rattle.instructions.specs.declared.instr.Instr.{Instr}
use Rattle.arith.specs.Arith.{two_of, one_of, compare_of, atomic_of, swap_of, address_of, word_of}
use Rattle.across.specs.Across.{across_of, shuffle_of}
use Rattle.compute.specs.declared.Shape.{Shape}
use Rattle.compute.specs.Registers.{slot_in}
use Rattle.compute.specs.Memory.{memory_of}
use Rattle.compute.specs.Operands.{Lent}
use Rattle.compute.specs.Values.{special_of}

-- register r of lane i
abbrev pub register : Shape → List ℕ → ℕ → ℕ → ℕ
register shape regs i r = get_or regs (slot_in shape i r) 0

-- lane i's turn at a memory, where it executes: of the word that its address names it leaves f i of what it found
abbrev pub turn_at : (ℕ → ℕ) → (ℕ → ℕ → ℕ) → ℕ → ℕ → List ℕ → List ℕ
turn_at address f t i memory = cond (has t i) (set memory (word_of (address i)) (f i (get_or memory (word_of (address i)) 0))) memory

-- what the lanes below n make of a memory, in rising order
abbrev pub work_of : (ℕ → ℕ) → (ℕ → ℕ → ℕ) → ℕ → ℕ → List ℕ → List ℕ
work_of address f t n memory = in_order n (turn_at address f t) memory

-- the word that lane i's address names, once the lanes below it have done their work
abbrev pub found_by : (ℕ → ℕ) → (ℕ → ℕ → ℕ) → ℕ → List ℕ → ℕ → ℕ
found_by address f t memory i = get_or (work_of address f t i memory) (word_of (address i)) 0

module _ (shape : Shape) (x : Instr) (regs : List ℕ) where
  -- lane i's RD, RS1, RS2 and RS3
  abbrev pub rd_of : ℕ → ℕ
  rd_of i = register shape regs i x.rd

  abbrev pub rs1_of : ℕ → ℕ
  rs1_of i = register shape regs i x.rs1

  abbrev pub rs2_of : ℕ → ℕ
  rs2_of i = register shape regs i x.rs2

  abbrev pub rs3_of : ℕ → ℕ
  rs3_of i = register shape regs i x.rs3

  -- its address: the base plus the offset
  abbrev pub reach_of : ℕ → ℕ
  reach_of i = address_of (rs1_of i) x.number

-- lane i's result, t the executing lanes: of an atomic and of CAS, whose address is RS1, the old word, with the lower lanes' work done
abbrev pub result_by : Op → Shape → Instr → ℕ → Lent → ℕ → ℕ
result_by (Op.Two o) shape x t m i = two_of o (rs1_of shape x m.regs i) (rs2_of shape x m.regs i)
result_by (Op.Compare o) shape x t m i = cond (compare_of o (rs1_of shape x m.regs i) (rs2_of shape x m.regs i)) 1 0
result_by (Op.One o) shape x t m i = one_of o (rs1_of shape x m.regs i)
result_by Op.Special shape x t m i = special_of x.rs1 i
result_by Op.Number shape x t m i = x.number
result_by (Op.Load s) shape x t m i = get_or (memory_of s m.memories) (word_of (reach_of shape x m.regs i)) 0
result_by (Op.Store s) shape x t m i = 0
result_by (Op.Atomic o) shape x t m i =
    found_by (rs1_of shape x m.regs) (λ j old. atomic_of o old (rs2_of shape x m.regs j)) t m.memories.device i
result_by Op.Cas shape x t m i =
    found_by (rs1_of shape x m.regs) (λ j old. swap_of old (rs2_of shape x m.regs j) (rs3_of shape x m.regs j)) t m.memories.device i
result_by (Op.Wave o) shape x t m i = across_of o shape.width t (rs1_of shape x m.regs) i
result_by Op.Shuffle shape x t m i = shuffle_of shape.width t (rs1_of shape x m.regs) (rs2_of shape x m.regs) i
result_by (Op.Control o) shape x t m i = 0

abbrev pub result_of : Shape → Instr → ℕ → Lent → ℕ → ℕ
result_of shape x t m i = result_by x.op shape x t m i

-- lane j is the highest executing lane below n whose address names word k
pub record Highest (address : ℕ → ℕ) (t n k j : ℕ) : Type 0 where
  pub below : j < n
  pub executes : has t j ≡ true
  pub names : word_of (address j) ≡ k
  pub none_above : (i : ℕ) → j < i → i < n → has t i ≡ true → word_of (address i) ≡ k → ⊥

-- the memory that an operation changes
pub data Changes : Op → Space → Type 0 where
  store : {s : Space} → Changes (Op.Store s) s
  atomic : {o : AtomicOp} → Changes (Op.Atomic o) Space.Device
  cas : Changes Op.Cas Space.Device
