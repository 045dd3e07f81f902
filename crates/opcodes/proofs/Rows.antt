-- The table, row by row: each operation is found by its own opcode and modifier, and these fit their fields.
use Rattle.std.specs.Prelude.{Some}
use mathlib.Core.Path.{◌≡◌, refl}
use Prim.Native.Nat.{◌<◌}
use lib.Dec.{T, ltb, ltb→lt}
use Rattle.instructions.specs.declared.instr.TwoOp.{TwoOp}
use Rattle.instructions.specs.declared.instr.CompareOp.{CompareOp}
use Rattle.instructions.specs.declared.instr.OneOp.{OneOp}
use Rattle.instructions.specs.declared.instr.AtomicOp.{AtomicOp}
use Rattle.instructions.specs.declared.instr.WaveOp.{WaveOp}
use Rattle.instructions.specs.declared.instr.ControlOp.{ControlOp}
use Rattle.instructions.specs.declared.instr.Space.{Space}
use Rattle.instructions.specs.declared.instr.Op.{Op}
use Rattle.opcodes.specs.Table.{opcode_of, modifier_of, op_of}

pub record Known (o : Op) : Type 0 where
  pub opcode : opcode_of o < 255
  pub modifier : modifier_of o < 16
  pub found : op_of (opcode_of o) (modifier_of o) ≡ Some o

known : {o : Op} → T (ltb (opcode_of o) 255) → T (ltb (modifier_of o) 16) → op_of (opcode_of o) (modifier_of o) ≡ Some o → Known o
known {o} a b e = record { opcode = ltb→lt (opcode_of o) 255 a; modifier = ltb→lt (modifier_of o) 16 b; found = e }

two : (o : TwoOp) → Known (Op.Two o)
two TwoOp.Add = known tt tt refl
two TwoOp.Sub = known tt tt refl
two TwoOp.Mul = known tt tt refl
two TwoOp.Div = known tt tt refl
two TwoOp.Udiv = known tt tt refl
two TwoOp.Rem = known tt tt refl
two TwoOp.Urem = known tt tt refl
two TwoOp.Min = known tt tt refl
two TwoOp.Max = known tt tt refl
two TwoOp.Mulhi = known tt tt refl
two TwoOp.And = known tt tt refl
two TwoOp.Or = known tt tt refl
two TwoOp.Xor = known tt tt refl
two TwoOp.Shl = known tt tt refl
two TwoOp.Shr = known tt tt refl
two TwoOp.Sar = known tt tt refl

compare : (o : CompareOp) → Known (Op.Compare o)
compare CompareOp.Eq = known tt tt refl
compare CompareOp.Ne = known tt tt refl
compare CompareOp.Lt = known tt tt refl
compare CompareOp.Ge = known tt tt refl

one : (o : OneOp) → Known (Op.One o)
one OneOp.Neg = known tt tt refl
one OneOp.Abs = known tt tt refl
one OneOp.Not = known tt tt refl
one OneOp.Popcnt = known tt tt refl
one OneOp.Mov = known tt tt refl

load : (o : Space) → Known (Op.Load o)
load Space.Device = known tt tt refl
load Space.Local = known tt tt refl

store : (o : Space) → Known (Op.Store o)
store Space.Device = known tt tt refl
store Space.Local = known tt tt refl

atomic : (o : AtomicOp) → Known (Op.Atomic o)
atomic AtomicOp.Add = known tt tt refl
atomic AtomicOp.Sub = known tt tt refl
atomic AtomicOp.And = known tt tt refl
atomic AtomicOp.Or = known tt tt refl
atomic AtomicOp.Xor = known tt tt refl
atomic AtomicOp.Min = known tt tt refl
atomic AtomicOp.Max = known tt tt refl
atomic AtomicOp.Umin = known tt tt refl
atomic AtomicOp.Umax = known tt tt refl
atomic AtomicOp.Xchg = known tt tt refl

wave : (o : WaveOp) → Known (Op.Wave o)
wave WaveOp.Broadcast = known tt tt refl
wave WaveOp.ReduceAdd = known tt tt refl
wave WaveOp.ReduceMin = known tt tt refl
wave WaveOp.ReduceMax = known tt tt refl
wave WaveOp.PrefixSum = known tt tt refl
wave WaveOp.Ballot = known tt tt refl
wave WaveOp.Any = known tt tt refl
wave WaveOp.All = known tt tt refl

control : (o : ControlOp) → Known (Op.Control o)
control ControlOp.If = known tt tt refl
control ControlOp.Else = known tt tt refl
control ControlOp.Endif = known tt tt refl
control ControlOp.Loop = known tt tt refl
control ControlOp.Break = known tt tt refl
control ControlOp.Continue = known tt tt refl
control ControlOp.Endloop = known tt tt refl
control ControlOp.Halt = known tt tt refl
control ControlOp.Barrier = known tt tt refl
control ControlOp.Nop = known tt tt refl

pub table : (o : Op) → Known o
table (Op.Two o) = two o
table (Op.Compare o) = compare o
table (Op.One o) = one o
table Op.Special = known tt tt refl
table Op.Number = known tt tt refl
table (Op.Load s) = load s
table (Op.Store s) = store s
table (Op.Atomic o) = atomic o
table Op.Cas = known tt tt refl
table (Op.Wave o) = wave o
table Op.Shuffle = known tt tt refl
table (Op.Control o) = control o
