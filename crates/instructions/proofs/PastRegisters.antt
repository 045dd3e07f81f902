-- Refusal 7: a register of an instruction is R or more exactly if the test of its registers fails.
use Prim.Native.Nat.{ℕ, ◌≤◌}
use mathlib.Core.Path.{◌≡◌, refl, sym}
use mathlib.Core.Bool.{Bool, true, false, ◌&&◌}
use mathlib.Core.Logic.{◌⊎◌, ◌↔◌, inl, inr, ⊎_elim}
use borrow.Author.Tests.{ltb-false, le-ltb}
use Rattle.ground.proofs.Bools.{never}
use Rattle.instructions.specs.declared.instr.Instr.{Instr}
use Rattle.instructions.specs.declared.registers.Registers.{Registers}
use Rattle.instructions.specs.Registers.{registers_of, Past, rd_past, rs1_past, rs2_past, rs3_past, below, registers_below}

both_false : (a b : Bool) → (a && b) ≡ false → (a ≡ false) ⊎ (b ≡ false)
both_false true b e = inr e
both_false false b e = inl refl

right_false : (a b : Bool) → b ≡ false → (a && b) ≡ false
right_false true b e = e
right_false false b e = refl

-- a register field that is not below R is R or more
field_past : (R : ℕ) (used : Bool) (field : ℕ) → below R used field ≡ false → (used ≡ true) × (R ≤ field)
field_past R true field e = (refl, ltb-false field R e)
field_past R false field e = never (sym e)

past_field : (R : ℕ) (used : Bool) (field : ℕ) → used ≡ true → R ≤ field → below R used field ≡ false
past_field R used field u h = rw (u, le-ltb field R h) refl

module _ (R : ℕ) (x : Instr) where
  abbrev used : Registers
  used = registers_of x.op

  abbrev rd : Bool
  rd = below R used.rd x.rd

  abbrev rs1 : Bool
  rs1 = below R used.rs1 x.rs1

  abbrev rs2 : Bool
  rs2 = below R used.rs2 x.rs2

  abbrev rs3 : Bool
  rs3 = below R used.rs3 x.rs3

  past : registers_below R x ≡ false → Past R x
  past e =
      ⊎_elim
      (λ e'.
      ⊎_elim
      (λ e''.
      ⊎_elim
      (λ f. let z = field_past R used.rd x.rd f in rd_past z.0 z.1)
      (λ f. let z = field_past R used.rs1 x.rs1 f in rs1_past z.0 z.1)
      (both_false rd rs1 e''))
      (λ f. let z = field_past R used.rs2 x.rs2 f in rs2_past z.0 z.1)
      (both_false (rd && rs1) rs2 e'))
      (λ f. let z = field_past R used.rs3 x.rs3 f in rs3_past z.0 z.1)
      (both_false (rd && rs1 && rs2) rs3 e)

  not_below : Past R x → registers_below R x ≡ false
  not_below (rd_past u h) = rw (past_field R used.rd x.rd u h) refl
  not_below (rs1_past u h) = rw (right_false rd rs1 (past_field R used.rs1 x.rs1 u h)) refl
  not_below (rs2_past u h) = rw (right_false (rd && rs1) rs2 (past_field R used.rs2 x.rs2 u h)) refl
  not_below (rs3_past u h) = right_false (rd && rs1 && rs2) rs3 (past_field R used.rs3 x.rs3 u h)

  -- THEOREM
  pub past_if : (registers_below R x ≡ false) ↔ Past R x
  past_if = (past, not_below)
