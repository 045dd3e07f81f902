-- A step of the proofs: nothing that is said to the reader rests on this file.
-- What the loops over the lanes give, of registers of the buffer: the results of one class of operations each.
use Rattle.std.specs.Prelude.{◌≡◌, ℕ, ◌^◌, ◌<◌, cond, List, get_or}
use Rattle.instructions.specs.declared.instr.TwoOp.{TwoOp}
use Rattle.instructions.specs.declared.instr.OneOp.{OneOp}
use Rattle.instructions.specs.declared.instr.CompareOp.{CompareOp}
use Rattle.instructions.specs.declared.instr.Op.{Op}
use Rattle.instructions.specs.declared.instr.Instr.{Instr}
use Rattle.arith.specs.Arith.{two_of, one_of, compare_of, atomic_of, swap_of}
use Rattle.compute.specs.declared.Shape.{Shape}
use Rattle.compute.specs.declared.memory.Change.{Change}
use Rattle.lanes.specs.EachLane.{by_lane}
use Rattle.compute.specs.Registers.{gather_of}
use Rattle.compute.specs.Memory.{word_at}

-- every answer that a rule may give of a number, or of two, is f's
abbrev pub OfOne : (ℕ → ℕ → Type 0) → (ℕ → ℕ) → Type 0
OfOne answers f = (a r : ℕ) → a < 2 ^ 32 → answers a r → r ≡ f a

abbrev pub OfTwo : (ℕ → ℕ → ℕ → Type 0) → (ℕ → ℕ → ℕ) → Type 0
OfTwo answers f = (a b r : ℕ) → a < 2 ^ 32 → b < 2 ^ 32 → answers a b r → r ≡ f a b

-- f of the register a of every lane, and of the registers a and b
abbrev pub by_one : (ℕ → ℕ) → Shape → List ℕ → ℕ → List ℕ
by_one f shape regs a = by_lane shape.width (λ i. f (get_or (gather_of shape regs a) i 0))

abbrev pub by_two : (ℕ → ℕ → ℕ) → Shape → List ℕ → ℕ → ℕ → List ℕ
by_two f shape regs a b = by_lane shape.width (λ i. f (get_or (gather_of shape regs a) i 0) (get_or (gather_of shape regs b) i 0))

-- an operation on the registers a and b
unfoldable pub two_lanes : TwoOp → Shape → List ℕ → ℕ → ℕ → List ℕ
two_lanes o = by_two (two_of o)

-- a comparison of them, 1 where it holds
unfoldable pub compare_lanes : CompareOp → Shape → List ℕ → ℕ → ℕ → List ℕ
compare_lanes o = by_two (λ a b. cond (compare_of o a b) 1 0)

-- an operation on the register a
unfoldable pub one_lanes : OneOp → Shape → List ℕ → ℕ → List ℕ
one_lanes o = by_one (one_of o)

-- the words that the addresses name
unfoldable pub load_lanes : ℕ → List ℕ → List ℕ → List ℕ
load_lanes W at memory = by_lane W (word_at at memory)

-- the operation of an atomic or CAS, and its register with the desired word: an atomic has none, and its operand stands for it
abbrev pub op_by : Change → Op
op_by (Change.Atomic o) = Op.Atomic o
op_by Change.Swap = Op.Cas

abbrev pub desired_by : Change → Instr → ℕ
desired_by (Change.Atomic o) x = x.rs2
desired_by Change.Swap x = x.rs3

-- what it leaves of the old word
abbrev pub change_of : Change → ℕ → ℕ → ℕ → ℕ
change_of (Change.Atomic o) old b c = atomic_of o old b
change_of Change.Swap old b c = swap_of old b c

-- by lane i, with its registers b and c
abbrev pub change_to : Change → Shape → List ℕ → ℕ → ℕ → ℕ → ℕ → ℕ
change_to change shape regs b c i old =
    change_of change old (get_or (gather_of shape regs b) i 0) (get_or (gather_of shape regs c) i 0)
