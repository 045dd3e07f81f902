-- What is written reads back: the words of a valid instruction, whatever stands after them, read as that instruction. Word 0 gives its fields
-- back; word 1 by its three forms, never by operation.
use Rattle.std.specs.Prelude.{Ok}
use mathlib.Core.Path.{◌≡◌, refl, sym}
use mathlib.Core.Bool.{Bool, true, false, cond, ◌&&◌}
use mathlib.Core.List.{List, ◌++◌}
use Prim.Native.Nat.{ℕ, suc, ◌≤◌, ◌<◌}
use native.Mathlib.Omega.{arith}
use lib.Dec.{eqb}
use lib.ListN.{length, get_or, length-append}
use borrow.Author.Tests.{eqb-true, le-ltb}
use Rattle.ground.proofs.Bools.{and_left, and_right}
use Rattle.instructions.specs.declared.instr.Op.{Op}
use Rattle.instructions.specs.declared.instr.Guard.{Guard}
use Rattle.instructions.specs.declared.instr.Instr.{Instr}
use Rattle.instructions.specs.declared.forms.Second.{Second}
use Rattle.opcodes.specs.Table.{opcode_of, modifier_of}
use Rattle.instructions.specs.Forms.{limits_of, size_of, second_fits, valid}
use Rattle.words.specs.Layout.{guard_in, first_word, instr, instr_in, rest_of, second_spare, spare_zero, words_of, opcode_in, rd_in, rs1_in, modifier_in, bit3_in, counted}
use Rattle.words.specs.Reading.{read_from}
use Rattle.opcodes.proofs.Rows.{table}
use Rattle.words.proofs.Sizes.{words_length}
use Rattle.words.proofs.Digits.{joined, top_back, rd_back, rs1_back, modifier_back, spare_back, negate_back, pred_back, rs2_back, rs3_back, rs4_back, unused_back, scope_back}
use Rattle.words.proofs.Validity.{SecondSmall, Fields, fields, registers_fit}
use Rattle.words.proofs.ReadSteps.{fields_are}

abbrev bit : Bool → ℕ
bit b = cond b 1 0

bit_small : (b : Bool) → bit b < 2
bit_small true = omega arith
bit_small false = omega arith

bit_tested : (b : Bool) → eqb (bit b) 1 ≡ b
bit_tested true = refl
bit_tested false = refl

-- word 0 by its fields
first_joined :
    (op : Op) (rd rs1 pred : ℕ) (b : Bool) →
    first_word (instr op (record { pred = pred; negate = b }) rd rs1 0 0 0 0) ≡ joined (opcode_of op) rd rs1 (modifier_of op) (bit b) pred
first_joined op rd rs1 pred true = refl
first_joined op rd rs1 pred false = refl

same :
    {o : Op} {g h : Guard} {rd rd' rs1 rs1' rs2 rs2' rs3 rs3' scope scope' n n' : ℕ} →
    g ≡ h → rd ≡ rd' → rs1 ≡ rs1' → rs2 ≡ rs2' → rs3 ≡ rs3' → scope ≡ scope' → n ≡ n' → instr o g rd rs1 rs2 rs3 scope n ≡ instr o h rd' rs1' rs2' rs3' scope' n'
same a b c d e f g = rw (a, b, c, d, e, f, g)

-- the fields that word 0 of an instruction is read as
record First (i : Instr) (w : ℕ) : Type 0 where
  opcode : opcode_in w ≡ opcode_of i.op
  modifier : modifier_in w ≡ modifier_of i.op
  rd : rd_in w ≡ i.rd
  rs1 : rs1_in w ≡ i.rs1
  spare : bit3_in w ≡ 0
  guard : guard_in w ≡ i.guard

first_back : (i : Instr) → Fields i → First i (first_word i)
first_back i f =
    let c = opcode_of i.op in
    let m = modifier_of i.op in
    let n = bit i.guard.negate in
    let p = i.guard.pred in
    let e : first_word i ≡ joined c i.rd i.rs1 m n p = first_joined i.op i.rd i.rs1 p i.guard.negate in
    let m-fits = (table i.op).modifier in
    let n-fits = bit_small i.guard.negate in
    record {
      opcode = rw e (top_back c i.rd i.rs1 m n p f.rd f.rs1 m-fits n-fits f.pred);
      modifier = rw e (modifier_back c i.rd i.rs1 m n p f.rd f.rs1 m-fits n-fits f.pred);
      rd = rw e (rd_back c i.rd i.rs1 m n p f.rd f.rs1 m-fits n-fits f.pred);
      rs1 = rw e (rs1_back c i.rd i.rs1 m n p f.rd f.rs1 m-fits n-fits f.pred);
      spare = rw e (spare_back c i.rd i.rs1 m n p f.rd f.rs1 m-fits n-fits f.pred);
      guard =
          rw (
            e,
            negate_back c i.rd i.rs1 m n p f.rd f.rs1 m-fits n-fits f.pred,
            pred_back c i.rd i.rs1 m n p f.rd f.rs1 m-fits n-fits f.pred,
            bit_tested i.guard.negate,
          );
    }

-- word 1 gives its fields back, by form
instr_back :
    (s : Second) (i : Instr) (w : ℕ) (after : List ℕ) → First i w → second_fits s i ≡ true → SecondSmall s →
    (second_spare s (get_or (rest_of s i ++ after) 0 0) ≡ true) × (i ≡ instr_in s i.op w (get_or (rest_of s i ++ after) 0 0))
instr_back Second.Nothing i w after f fit small =
    let past-rs2 = and_right (eqb i.rs2 0) (eqb i.rs3 0 && (eqb i.scope 0 && eqb i.number 0)) fit in
    let past-rs3 = and_right (eqb i.rs3 0) (eqb i.scope 0 && eqb i.number 0) past-rs2 in (
      refl,
      same (sym f.guard) (sym f.rd) (sym f.rs1) (eqb-true _ 0 (and_left (eqb i.rs2 0) _ fit))
          (eqb-true _ 0 (and_left (eqb i.rs3 0) _ past-rs2)) (eqb-true _ 0 (and_left (eqb i.scope 0) _ past-rs3))
          (eqb-true _ 0 (and_right (eqb i.scope 0) _ past-rs3)),
    )
instr_back Second.Number i w after f fit small =
    let past-rs2 = and_right (eqb i.rs2 0) (eqb i.rs3 0 && eqb i.scope 0) fit in (
      refl,
      same (sym f.guard) (sym f.rd) (sym f.rs1) (eqb-true _ 0 (and_left (eqb i.rs2 0) _ fit))
          (eqb-true _ 0 (and_left (eqb i.rs3 0) _ past-rs2)) (eqb-true _ 0 (and_right (eqb i.rs3 0) _ past-rs2)) refl,
    )
instr_back (Second.Registers x y z) i w after f fit small =
    let r = registers_fit x y z i fit small in (
      rw (rs4_back i.rs2 i.rs3 i.scope r.1 r.2, unused_back i.rs2 i.rs3 i.scope r.1 r.2),
      same (sym f.guard) (sym f.rd) (sym f.rs1) (sym (rs2_back i.rs2 i.rs3 i.scope r.1 r.2))
          (sym (rs3_back i.rs2 i.rs3 i.scope r.1 r.2)) (sym (scope_back i.rs2 i.rs3 i.scope r.1 r.2)) r.3,
    )

pub read_written : (i : Instr) → valid i ≡ true → (after : List ℕ) (at : ℕ) → read_from (words_of i ++ after) at ≡ Ok (counted i (length (words_of i)))
read_written i ok after at =
    let l = limits_of i.op in
    let w = first_word i in
    let v = get_or (rest_of l.second i ++ after) 0 0 in
    let f : First i w = first_back i (fields i ok) in
    let back = instr_back l.second i w after f (fields i ok).second (fields i ok).room in
    let spare : spare_zero l.second w v ≡ true = rw f.spare back.0 in
    let room : size_of l.second ≤ suc (length (rest_of l.second i ++ after)) =
    omega (arith, words_length i, length-append (rest_of l.second i) after) in
    rw (f.opcode, f.modifier, (table i.op).found, le-ltb (suc (length (rest_of l.second i ++ after))) (size_of l.second) room)
    (sym (fields_are i.op l w v at (length (words_of i)) i true true true back.1 (words_length i) (sym spare) (sym ok) refl))
