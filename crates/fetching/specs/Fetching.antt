-- The instruction at a place and how many words it has, as its words say it, with no test of them; for code that has passed the check.
use Rattle.std.specs.Prelude.{false, List, [], ◌∷◌, ℕ, get_or, drop, Option, Some, None}
use Rattle.instructions.specs.declared.instr.ControlOp.{ControlOp}
use Rattle.instructions.specs.declared.instr.Instr.{Instr}
use Rattle.instructions.specs.declared.instr.Op.{Op}
use Rattle.words.specs.declared.reading.Fetched.{Fetched}
use Rattle.opcodes.specs.Table.{op_of}
use Rattle.instructions.specs.Forms.{limits_of, size}
use Rattle.words.specs.Layout.{opcode_in, modifier_in, instr, instr_in, counted}

abbrev pub nop : Fetched
nop = counted (instr (Op.Control ControlOp.Nop) (record { pred = 0; negate = false }) 0 0 0 0 0 0) 1

-- the words w and v, once their operation has been looked up
abbrev pub said_by : Option Op → ℕ → ℕ → Fetched
said_by None w v = nop
said_by (Some o) w v = counted (instr_in (limits_of o).second o w v) (size o)

abbrev pub said_from : List ℕ → Fetched
said_from [] = nop
said_from (w ∷ ws) = said_by (op_of (opcode_in w) (modifier_in w)) w (get_or ws 0 0)

-- what is fetched at a place: NOP where no word stands, or none that names an operation
unfoldable pub fetch_at : List ℕ → ℕ → Fetched
fetch_at ws at = said_from (drop at ws)

abbrev pub instr_at : List ℕ → ℕ → Instr
instr_at ws at = (fetch_at ws at).instr

-- the control operation that an operation is, if it is one
abbrev pub control_in : Op → Option ControlOp
control_in (Op.Control o) = Some o
control_in (Op.Two o) = None
control_in (Op.Compare o) = None
control_in (Op.One o) = None
control_in Op.Special = None
control_in Op.Number = None
control_in (Op.Load s) = None
control_in (Op.Store s) = None
control_in (Op.Atomic o) = None
control_in Op.Cas = None
control_in (Op.Wave o) = None
control_in Op.Shuffle = None
