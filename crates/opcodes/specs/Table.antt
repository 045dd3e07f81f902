-- The table of operations: the opcode and the modifier of each, and the operation that a word names.
use Rattle.std.specs.Prelude.{Bool, cond, ◌&&◌, List, [], ◌∷◌, ◌++◌, ℕ, eqb, Option, Some, None}
use Rattle.instructions.specs.declared.instr.TwoOp.{TwoOp}
use Rattle.instructions.specs.declared.instr.CompareOp.{CompareOp}
use Rattle.instructions.specs.declared.instr.OneOp.{OneOp}
use Rattle.instructions.specs.declared.instr.AtomicOp.{AtomicOp}
use Rattle.instructions.specs.declared.instr.WaveOp.{WaveOp}
use Rattle.instructions.specs.declared.instr.ControlOp.{ControlOp}
use Rattle.instructions.specs.declared.instr.Space.{Space}
use Rattle.instructions.specs.declared.instr.Op.{Op}

-- two words, RS2
abbrev pub two_code : TwoOp → ℕ
two_code TwoOp.Add = 0x00
two_code TwoOp.Sub = 0x01
two_code TwoOp.Mul = 0x02
two_code TwoOp.Div = 0x03
two_code TwoOp.Udiv = 0x04
two_code TwoOp.Rem = 0x05
two_code TwoOp.Urem = 0x06
two_code TwoOp.Min = 0x09
two_code TwoOp.Max = 0x0A
two_code TwoOp.Mulhi = 0x0B
two_code TwoOp.And = 0x20
two_code TwoOp.Or = 0x21
two_code TwoOp.Xor = 0x22
two_code TwoOp.Shl = 0x24
two_code TwoOp.Shr = 0x25
two_code TwoOp.Sar = 0x26

-- comparisons, the same form
abbrev pub compare_code : CompareOp → ℕ
compare_code CompareOp.Eq = 0x28
compare_code CompareOp.Ne = 0x29
compare_code CompareOp.Lt = 0x2A
compare_code CompareOp.Ge = 0x2B

-- one word
abbrev pub one_code : OneOp → ℕ
one_code OneOp.Neg = 0x07
one_code OneOp.Abs = 0x08
one_code OneOp.Not = 0x23
one_code OneOp.Popcnt = 0x27
one_code OneOp.Mov = 0xF0

-- LOAD and LOCAL_LOAD
abbrev pub load_code : Space → ℕ
load_code Space.Device = 0x30
load_code Space.Local = 0x38

-- STORE and LOCAL_STORE
abbrev pub store_code : Space → ℕ
store_code Space.Device = 0x31
store_code Space.Local = 0x39

-- the opcode of an operation
abbrev pub opcode_of : Op → ℕ
opcode_of (Op.Two o) = two_code o
opcode_of (Op.Compare o) = compare_code o
opcode_of (Op.One o) = one_code o
opcode_of Op.Special = 0xF2
opcode_of (Op.Load s) = load_code s
opcode_of (Op.Store s) = store_code s
opcode_of Op.Number = 0xF1
opcode_of (Op.Atomic o) = 0x3C
opcode_of Op.Cas = 0x3D
opcode_of (Op.Wave o) = 0x3E
opcode_of Op.Shuffle = 0x3E
opcode_of (Op.Control o) = 0x3F

-- the modifiers of ATOMIC
abbrev pub atomic_modifier : AtomicOp → ℕ
atomic_modifier AtomicOp.Add = 0
atomic_modifier AtomicOp.Sub = 1
atomic_modifier AtomicOp.And = 2
atomic_modifier AtomicOp.Or = 3
atomic_modifier AtomicOp.Xor = 4
atomic_modifier AtomicOp.Min = 5
atomic_modifier AtomicOp.Max = 6
atomic_modifier AtomicOp.Umin = 7
atomic_modifier AtomicOp.Umax = 8
atomic_modifier AtomicOp.Xchg = 9

-- the modifiers of the wave operations but SHUFFLE
abbrev pub wave_modifier : WaveOp → ℕ
wave_modifier WaveOp.Broadcast = 0
wave_modifier WaveOp.ReduceAdd = 1
wave_modifier WaveOp.ReduceMin = 2
wave_modifier WaveOp.ReduceMax = 3
wave_modifier WaveOp.PrefixSum = 4
wave_modifier WaveOp.Ballot = 6
wave_modifier WaveOp.Any = 7
wave_modifier WaveOp.All = 8

-- the modifiers of control
abbrev pub control_modifier : ControlOp → ℕ
control_modifier ControlOp.If = 0
control_modifier ControlOp.Else = 1
control_modifier ControlOp.Endif = 2
control_modifier ControlOp.Loop = 3
control_modifier ControlOp.Break = 4
control_modifier ControlOp.Continue = 5
control_modifier ControlOp.Endloop = 6
control_modifier ControlOp.Halt = 9
control_modifier ControlOp.Barrier = 10
control_modifier ControlOp.Nop = 15

-- the modifier of an operation: 0 where none is listed
abbrev pub modifier_of : Op → ℕ
modifier_of (Op.Two o) = 0
modifier_of (Op.Compare o) = 0
modifier_of (Op.One o) = 0
modifier_of Op.Special = 0
modifier_of (Op.Load s) = 0
modifier_of (Op.Store s) = 0
modifier_of Op.Number = 0
modifier_of (Op.Atomic o) = atomic_modifier o
modifier_of Op.Cas = 0
modifier_of (Op.Wave o) = wave_modifier o
modifier_of Op.Shuffle = 5
modifier_of (Op.Control o) = control_modifier o

-- the operations on numbers: 00 to 0F
abbrev pub sums : List Op
sums =
    Op.Two TwoOp.Add ∷ Op.Two TwoOp.Sub ∷ Op.Two TwoOp.Mul ∷ Op.Two TwoOp.Div ∷ Op.Two TwoOp.Udiv ∷ Op.Two TwoOp.Rem
    ∷ Op.Two TwoOp.Urem ∷ Op.One OneOp.Neg ∷ Op.One OneOp.Abs ∷ Op.Two TwoOp.Min ∷ Op.Two TwoOp.Max ∷ Op.Two TwoOp.Mulhi
    ∷ []

-- those on bits, and the comparisons: 20 to 2F
abbrev pub bitwise : List Op
bitwise =
    Op.Two TwoOp.And ∷ Op.Two TwoOp.Or ∷ Op.Two TwoOp.Xor ∷ Op.One OneOp.Not ∷ Op.Two TwoOp.Shl ∷ Op.Two TwoOp.Shr
    ∷ Op.Two TwoOp.Sar ∷ Op.One OneOp.Popcnt ∷ Op.Compare CompareOp.Eq ∷ Op.Compare CompareOp.Ne
    ∷ Op.Compare CompareOp.Lt ∷ Op.Compare CompareOp.Ge ∷ []

-- the moves: F0 to FF
abbrev pub moves : List Op
moves = Op.One OneOp.Mov ∷ Op.Number ∷ Op.Special ∷ []

-- those of memory that have no modifier: 30 to 3F
abbrev pub accesses : List Op
accesses = Op.Load Space.Device ∷ Op.Store Space.Device ∷ Op.Load Space.Local ∷ Op.Store Space.Local ∷ Op.Cas ∷ []

-- those of ATOMIC
abbrev pub atomics : List Op
atomics =
    Op.Atomic AtomicOp.Add ∷ Op.Atomic AtomicOp.Sub ∷ Op.Atomic AtomicOp.And ∷ Op.Atomic AtomicOp.Or ∷ Op.Atomic AtomicOp.Xor
    ∷ Op.Atomic AtomicOp.Min ∷ Op.Atomic AtomicOp.Max ∷ Op.Atomic AtomicOp.Umin ∷ Op.Atomic AtomicOp.Umax
    ∷ Op.Atomic AtomicOp.Xchg ∷ []

-- those across the wave
abbrev pub crossings : List Op
crossings =
    Op.Wave WaveOp.Broadcast ∷ Op.Wave WaveOp.ReduceAdd ∷ Op.Wave WaveOp.ReduceMin ∷ Op.Wave WaveOp.ReduceMax ∷ Op.Wave WaveOp.PrefixSum
    ∷ Op.Shuffle ∷ Op.Wave WaveOp.Ballot ∷ Op.Wave WaveOp.Any ∷ Op.Wave WaveOp.All ∷ []

-- those of control: 3F
abbrev pub controls : List Op
controls =
    Op.Control ControlOp.If ∷ Op.Control ControlOp.Else ∷ Op.Control ControlOp.Endif ∷ Op.Control ControlOp.Loop
    ∷ Op.Control ControlOp.Break ∷ Op.Control ControlOp.Continue ∷ Op.Control ControlOp.Endloop ∷ Op.Control ControlOp.Halt
    ∷ Op.Control ControlOp.Barrier ∷ Op.Control ControlOp.Nop ∷ []

-- those that touch registers and predicates alone
abbrev pub in_registers : List Op
in_registers = sums ++ (bitwise ++ moves)

-- those that reach beyond a lane's own registers, to memory and to the other lanes: 30 to 3E
abbrev pub reaching : List Op
reaching = accesses ++ (atomics ++ crossings)

-- the operations that are carried
abbrev pub operations : List Op
operations = in_registers ++ (reaching ++ controls)

-- the first operation of a list that passes a test
abbrev pub find : (Op → Bool) → List Op → Option Op
find test [] = None
find test (o ∷ os) = cond (test o) (Some o) (find test os)

-- an operation has this opcode and this modifier
abbrev pub has : ℕ → ℕ → Op → Bool
has opcode modifier o = eqb opcode (opcode_of o) && eqb modifier (modifier_of o)

-- the operation of an opcode and a modifier
abbrev pub op_of : ℕ → ℕ → Option Op
op_of opcode modifier = find (has opcode modifier) operations
