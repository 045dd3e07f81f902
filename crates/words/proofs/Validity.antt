-- What a valid instruction's fields are known to be: each fits its place in the words.
use mathlib.Core.Path.{◌≡◌}
use mathlib.Core.Bool.{true, not, ◌&&◌}
use Prim.Native.Nat.{ℕ, zero, suc, ◌≤◌, ◌<◌, ◌^◌}
use native.Mathlib.Omega.{arith}
use lib.ListN.{get_or}
use lib.Dec.{eqb, ltb, leb}
use borrow.Author.Rules.{rules}
use borrow.Author.Tests.{eqb-true, ltb-true, leb-true}
use Rattle.ground.proofs.Bools.{and_left, and_right}
use Rattle.instructions.specs.declared.instr.Op.{Op}
use Rattle.instructions.specs.declared.instr.Instr.{Instr}
use Rattle.instructions.specs.declared.forms.Second.{Second}
use Rattle.instructions.specs.declared.forms.Limits.{Limits}
use Rattle.opcodes.specs.Table.{opcode_of, modifier_of}
use Rattle.instructions.specs.Forms.{limits_of, need_met, guard_fits, second_fits, valid}
use Rattle.words.specs.Layout.{negate_bit, first_word, rest_of}
use Rattle.opcodes.proofs.Rows.{table}
use Rattle.words.proofs.Digits.{negate_small}

-- the limits of word 1 are within its fields
abbrev pub SecondSmall : Second → Type 0
SecondSmall Second.Nothing = Unit {0}
SecondSmall Second.Number = Unit {0}
SecondSmall (Second.Registers rs2 rs3 scope) = (rs2 < 256) × (rs3 < 256) × (scope < 4)

abbrev Small : Limits → Type 0
Small l = (l.rd < 256) × (l.rs1 < 256) × SecondSmall l.second

small : (o : Op) → Small (limits_of o)
small (Op.Two o) = search rules
small (Op.Compare o) = search rules
small (Op.One o) = search rules
small Op.Special = search rules
small (Op.Load s) = search rules
small (Op.Store s) = search rules
small Op.Number = search rules
small (Op.Atomic o) = search rules
small Op.Cas = search rules
small (Op.Wave o) = search rules
small Op.Shuffle = search rules
small (Op.Control o) = search rules

pub record Fields (i : Instr) : Type 0 where
  pub pred : i.guard.pred < 4
  pub rd : i.rd < 256
  pub rs1 : i.rs1 < 256
  pub second : second_fits (limits_of i.op).second i ≡ true
  pub room : SecondSmall (limits_of i.op).second

pub fields : (i : Instr) → valid i ≡ true → Fields i
fields i ok =
    let l = limits_of i.op in
    let guard = guard_fits l.need i.guard in
    let second = second_fits l.second i in
    let at-rs1 = leb i.rs1 l.rs1 && second in
    let at-rd = leb i.rd l.rd && at-rs1 in
    let pred_fits = and_left guard (leb l.least i.rd && at-rd) ok in
    let rd-fits = and_right (leb l.least i.rd) at-rd (and_right guard (leb l.least i.rd && at-rd) ok) in
    let rs1-fits = and_right (leb i.rd l.rd) at-rs1 rd-fits in
    let rd : i.rd ≤ l.rd = leb-true i.rd l.rd (and_left (leb i.rd l.rd) at-rs1 rd-fits) in
    let rs1 : i.rs1 ≤ l.rs1 = leb-true i.rs1 l.rs1 (and_left (leb i.rs1 l.rs1) second rs1-fits) in
    let within : Small l = small i.op in
    record {
      pred =
          ltb-true i.guard.pred 4
          (and_left (ltb i.guard.pred 4) (not (eqb i.guard.pred 0 && i.guard.negate) && need_met l.need i.guard.pred) pred_fits);
      rd = omega (arith, within.0);
      rs1 = omega (arith, within.1);
      second = and_right (leb i.rs1 l.rs1) second rs1-fits;
      room = within.2;
    }

-- the fields of a register-form word 1
pub registers_fit :
    (x y z : ℕ) (i : Instr) → second_fits (Second.Registers x y z) i ≡ true → SecondSmall (Second.Registers x y z) →
    (i.rs2 < 256) × (i.rs3 < 256) × (i.scope < 4) × (i.number ≡ 0)
registers_fit x y z i fit room =
    let past-rs2 = and_right (leb i.rs2 x) (leb i.rs3 y && (leb i.scope z && eqb i.number 0)) fit in
    let past-rs3 = and_right (leb i.rs3 y) (leb i.scope z && eqb i.number 0) past-rs2 in
    let rs2 : i.rs2 ≤ x = leb-true i.rs2 x (and_left (leb i.rs2 x) _ fit) in
    let rs3 : i.rs3 ≤ y = leb-true i.rs3 y (and_left (leb i.rs3 y) _ past-rs2) in
    let scope : i.scope ≤ z = leb-true i.scope z (and_left (leb i.scope z) _ past-rs3) in
    (omega (arith, room.0), omega (arith, room.1), omega (arith, room.2), eqb-true _ 0 (and_right (leb i.scope z) _ past-rs3))

-- then the words are below 2^32: the first
pub first_fits : (i : Instr) → Fields i → first_word i < 2 ^ 32
first_fits i f =
    let row = table i.op in
    let opcode : opcode_of i.op < 255 = row.opcode in
    let modifier : modifier_of i.op < 16 = row.modifier in
    let negate : negate_bit i.guard ≤ 4 = negate_small i.guard in
    omega (arith, f.pred, f.rd, f.rs1)

-- and what stands after it
pub rest_fits : (s : Second) (i : Instr) (k : ℕ) → second_fits s i ≡ true → SecondSmall s → i.number < 2 ^ 32 → get_or (rest_of s i) k 0 < 2 ^ 32
rest_fits Second.Nothing i k fit room n = omega arith
rest_fits Second.Number i zero fit room n = n
rest_fits Second.Number i (suc k) fit room n = omega arith
rest_fits (Second.Registers x y z) i zero fit room n =
    let f = registers_fit x y z i fit room in omega (arith, f.0, f.1, f.2)
rest_fits (Second.Registers x y z) i (suc k) fit room n = omega arith
