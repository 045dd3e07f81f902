-- The lanes' results, and where they go; what stores and atomics make of the memories. All of it of what the lanes read.
use Rattle.std.specs.Prelude.{ℕ, ◌&&◌, cond, List, eqb, get_or}
use Rattle.std.specs.Int.Bits.{bit_or}
use Rattle.lanes.specs.Sets.{has, without, set_of}
use Rattle.instructions.specs.declared.instr.AtomicOp.{AtomicOp}
use Rattle.instructions.specs.declared.instr.Op.{Op}
use Rattle.instructions.specs.declared.instr.Space.{Space}
use Rattle.instructions.specs.declared.instr.Instr.{Instr}
use Rattle.arith.specs.Arith.{two_of, one_of, compare_of, atomic_of, swap_of, address_of, word_of}
use Rattle.across.specs.Across.{across_of, shuffle_of}
use Rattle.compute.specs.declared.Shape.{Shape}
use Rattle.lanes.specs.EachLane.{by_lane}
use Rattle.compute.specs.Registers.{write_lanes}
use Rattle.compute.specs.Memory.{Memories, memories, memory_of, addresses_of, changes_of, old_of}
use Rattle.compute.specs.Operands.{Operands}

-- MOV_SPECIAL: 0 is the lane's number, 1 the wave's number, which is 0, 2 the number of waves, which is 1
abbrev pub special_of : ℕ → ℕ → ℕ
special_of number i = cond (eqb number 0) i (cond (eqb number 1) 0 1)

-- what a lane's store leaves of the word that it found: its register RD
abbrev pub store_to : Operands → ℕ → ℕ → ℕ
store_to v i old = get_or v.d i 0

-- an atomic: the operation on the old word and RS2
abbrev pub atomic_to : AtomicOp → Operands → ℕ → ℕ → ℕ
atomic_to o v i old = atomic_of o old (get_or v.b i 0)

-- CAS: RS3, where the old word is RS2
abbrev pub swap_to : Operands → ℕ → ℕ → ℕ
swap_to v i old = swap_of old (get_or v.b i 0) (get_or v.c i 0)

-- lane i's result, of W lanes: of an atomic the old word
abbrev pub value_by : Op → ℕ → Instr → ℕ → Memories → Operands → ℕ → ℕ
value_by (Op.Two o) W x t y v i = two_of o (get_or v.a i 0) (get_or v.b i 0)
value_by (Op.Compare o) W x t y v i = cond (compare_of o (get_or v.a i 0) (get_or v.b i 0)) 1 0
value_by (Op.One o) W x t y v i = one_of o (get_or v.a i 0)
value_by Op.Special W x t y v i = special_of x.rs1 i
value_by Op.Number W x t y v i = x.number
value_by (Op.Load s) W x t y v i = get_or (memory_of s y) (word_of (address_of (get_or v.a i 0) x.number)) 0
value_by (Op.Store s) W x t y v i = 0
value_by (Op.Atomic o) W x t y v i = old_of v.a (atomic_to o v) t y.device i
value_by Op.Cas W x t y v i = old_of v.a (swap_to v) t y.device i
value_by (Op.Wave o) W x t y v i = across_of o W t (λ j. get_or v.a j 0) i
value_by Op.Shuffle W x t y v i = shuffle_of W t (λ j. get_or v.a j 0) (λ j. get_or v.b j 0) i
value_by (Op.Control o) W x t y v i = 0

-- every lane's result
unfoldable pub results_of : Shape → Instr → ℕ → Memories → Operands → List ℕ
results_of shape x t y v = by_lane shape.width (value_by x.op shape.width x t y v)

-- where the results go: to the register RD, to the predicate that RD names, or nowhere
pub data Target : Type 0 where
  register predicate nothing : Target

-- by operation
abbrev pub target_by : Op → Target
target_by (Op.Two o) = register
target_by (Op.Compare o) = predicate
target_by (Op.One o) = register
target_by Op.Special = register
target_by Op.Number = register
target_by (Op.Load s) = register
target_by (Op.Store s) = nothing
target_by (Op.Atomic o) = register
target_by Op.Cas = register
target_by (Op.Wave o) = register
target_by Op.Shuffle = register
target_by (Op.Control o) = nothing

-- the registers afterwards
abbrev pub regs_by : Target → Shape → ℕ → ℕ → List ℕ → List ℕ → List ℕ
regs_by register shape d t results regs = write_lanes shape regs d t results
regs_by predicate shape d t results regs = regs
regs_by nothing shape d t results regs = regs

-- a predicate loses the executing lanes, and gains those of them whose result is 1
unfoldable pub predicate_of : ℕ → ℕ → ℕ → List ℕ → ℕ
predicate_of W p t results = bit_or (without p t) (set_of W (λ i. has t i && eqb (get_or results i 0) 1))

-- the predicate afterwards
abbrev pub predicate_by : Target → Shape → ℕ → List ℕ → ℕ → ℕ
predicate_by register shape t results p = p
predicate_by predicate shape t results p = predicate_of shape.width p t results
predicate_by nothing shape t results p = p

-- one of the memories changed
abbrev pub changed : Space → (List ℕ → List ℕ) → Memories → Memories
changed Space.Device f y = memories (f y.device) y.local
changed Space.Local f y = memories y.device (f y.local)

-- the memories after the lanes t: an atomic's address is RS1, on device memory
abbrev pub memories_by : Op → ℕ → Instr → ℕ → Operands → Memories → Memories
memories_by (Op.Two o) W x t v y = y
memories_by (Op.Compare o) W x t v y = y
memories_by (Op.One o) W x t v y = y
memories_by Op.Special W x t v y = y
memories_by Op.Number W x t v y = y
memories_by (Op.Load s) W x t v y = y
memories_by (Op.Store s) W x t v y = changed s (changes_of W (addresses_of W v.a x.number) (store_to v) t) y
memories_by (Op.Atomic o) W x t v y = changed Space.Device (changes_of W v.a (atomic_to o v) t) y
memories_by Op.Cas W x t v y = changed Space.Device (changes_of W v.a (swap_to v) t) y
memories_by (Op.Wave o) W x t v y = y
memories_by Op.Shuffle W x t v y = y
memories_by (Op.Control o) W x t v y = y
