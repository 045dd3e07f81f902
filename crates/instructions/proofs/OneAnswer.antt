-- One answer to each promise: any two results that it allows are equal. A law for each public function.
use mathlib.Core.Path.{◌≡◌, sym, ◌∙◌}
use mathlib.Core.Bool.{Bool}
use Prim.Native.Nat.{ℕ}
use Rattle.instructions.specs.declared.instr.Instr.{Instr}
use Rattle.instructions.specs.declared.instr.Op.{Op}
use Rattle.instructions.specs.declared.forms.Limits.{Limits}
use Rattle.instructions.specs.declared.forms.Second.{Second}
use Rattle.instructions.specs.declared.registers.Registers.{Registers}
use Rattle.instructions.specs.Forms.{limits_of, size_of, fits, valid}
use Rattle.instructions.specs.Registers.{registers_of, registers_below}

-- two results that equal one thing
pub one : {A : Type 0} {r u x : A} → r ≡ x → u ≡ x → r ≡ u
one p q = p ∙ sym q

-- ---- the forms
pub limits_of_one : (op : Op) (r u : Limits) → r ≡ limits_of op → u ≡ limits_of op → r ≡ u
limits_of_one op r u p q = one p q

pub size_of_one : (second : Second) (r u : ℕ) → r ≡ size_of second → u ≡ size_of second → r ≡ u
size_of_one second r u p q = one p q

pub fits_one : (limits : Limits) (i : Instr) (r u : Bool) → r ≡ fits limits i → u ≡ fits limits i → r ≡ u
fits_one limits i r u p q = one p q

pub is_valid_one : (i : Instr) (r u : Bool) → r ≡ valid i → u ≡ valid i → r ≡ u
is_valid_one i r u p q = one p q

-- ---- the registers
pub registers_of_one : (op : Op) (r u : Registers) → r ≡ registers_of op → u ≡ registers_of op → r ≡ u
registers_of_one op r u p q = one p q

pub registers_below_one : (i : Instr) (registers : ℕ) (r u : Bool) → r ≡ registers_below registers i → u ≡ registers_below registers i → r ≡ u
registers_below_one i registers r u p q = one p q
