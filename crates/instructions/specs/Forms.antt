-- The forms: how many words an operation has, and how large its fields may be. A field that it doesn't use is zero.
use Rattle.std.specs.Prelude.{Bool, true, not, ◌&&◌, ℕ, eqb, ltb, leb}
use Rattle.instructions.specs.declared.instr.ControlOp.{ControlOp}
use Rattle.instructions.specs.declared.instr.Op.{Op}
use Rattle.instructions.specs.declared.instr.Guard.{Guard}
use Rattle.instructions.specs.declared.instr.Instr.{Instr}
use Rattle.instructions.specs.declared.forms.Need.{Need}
use Rattle.instructions.specs.declared.forms.Second.{Second}
use Rattle.instructions.specs.declared.forms.Limits.{Limits}

-- RD at least, RD at most, RS1 at most, the predicates, the second word
abbrev pub form : ℕ → ℕ → ℕ → Need → Second → Limits
form least rd rs1 need second = record { least = least; rd = rd; rs1 = rs1; need = need; second = second }

-- the last of 256 registers
abbrev pub any_register : ℕ
any_register = 255

-- any scope is accepted
abbrev pub any_scope : ℕ
any_scope = 3

-- IF needs predicate 1 to 3. ELSE, ENDIF, LOOP, ENDLOOP, BARRIER and NOP need predicate 0.
abbrev pub need_of : ControlOp → Need
need_of ControlOp.If = Need.NotZero
need_of ControlOp.Else = Need.Zero
need_of ControlOp.Endif = Need.Zero
need_of ControlOp.Loop = Need.Zero
need_of ControlOp.Break = Need.Any
need_of ControlOp.Continue = Need.Any
need_of ControlOp.Endloop = Need.Zero
need_of ControlOp.Halt = Need.Any
need_of ControlOp.Barrier = Need.Zero
need_of ControlOp.Nop = Need.Zero

-- RD of a comparison names predicate 1 to 3; RS1 of MOV_SPECIAL is 0 to 2; of the wave operations SHUFFLE alone uses RS2
abbrev pub limits_of : Op → Limits
limits_of (Op.Two o) = form 0 any_register any_register Need.Any (Second.Registers any_register 0 0)
limits_of (Op.Compare o) = form 1 3 any_register Need.Any (Second.Registers any_register 0 0)
limits_of (Op.One o) = form 0 any_register any_register Need.Any Second.Nothing
limits_of Op.Special = form 0 any_register 2 Need.Any Second.Nothing
limits_of (Op.Load s) = form 0 any_register any_register Need.Any Second.Number
limits_of (Op.Store s) = form 0 any_register any_register Need.Any Second.Number
limits_of Op.Number = form 0 any_register 0 Need.Any Second.Number
limits_of (Op.Atomic o) = form 0 any_register any_register Need.Any (Second.Registers any_register 0 any_scope)
limits_of Op.Cas = form 0 any_register any_register Need.Any (Second.Registers any_register any_register any_scope)
limits_of (Op.Wave o) = form 0 any_register any_register Need.Any (Second.Registers 0 0 0)
limits_of Op.Shuffle = form 0 any_register any_register Need.Any (Second.Registers any_register 0 0)
limits_of (Op.Control o) = form 0 0 0 (need_of o) Second.Nothing

-- one word or two, by what the second is
abbrev pub size_of : Second → ℕ
size_of Second.Nothing = 1
size_of Second.Number = 2
size_of (Second.Registers rs2 rs3 scope) = 2

-- how many words an operation has
abbrev pub size : Op → ℕ
size o = size_of (limits_of o).second

-- the predicate is one that is needed
abbrev pub need_met : Need → ℕ → Bool
need_met Need.Any p = true
need_met Need.NotZero p = not (eqb p 0)
need_met Need.Zero p = eqb p 0

-- a predicate is 0 to 3, and predicate 0 with negate isn't allowed
abbrev pub guard_fits : Need → Guard → Bool
guard_fits need g = ltb g.pred 4 && (not (eqb g.pred 0 && g.negate) && need_met need g.pred)

-- the fields of word 1
abbrev pub second_fits : Second → Instr → Bool
second_fits Second.Nothing i = eqb i.rs2 0 && (eqb i.rs3 0 && (eqb i.scope 0 && eqb i.number 0))
second_fits Second.Number i = eqb i.rs2 0 && (eqb i.rs3 0 && eqb i.scope 0)
second_fits (Second.Registers rs2 rs3 scope) i =
    leb i.rs2 rs2 && (leb i.rs3 rs3 && (leb i.scope scope && eqb i.number 0))

-- every field keeps to its limits
abbrev pub fits : Limits → Instr → Bool
fits l i =
    guard_fits l.need i.guard
    && (leb l.least i.rd && (leb i.rd l.rd && (leb i.rs1 l.rs1 && second_fits l.second i)))

-- an instruction that words give, for R = 256: otherwise it is refused with 12
abbrev pub valid : Instr → Bool
valid i = fits (limits_of i.op) i
