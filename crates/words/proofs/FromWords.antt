-- What is read was written: where words read as an instruction, it is valid and they are its words. The reading is followed test by test; the
-- words are made of the fields read from them, word 1 by its three forms.
use Rattle.words.specs.declared.reading.Fetched.{Fetched}
use Rattle.std.specs.Prelude.{Option, Some, None, Result, Ok, Err}
use mathlib.Core.Path.{◌≡◌, refl, sym, ◌∙◌, ap}
use mathlib.Core.Bool.{Bool, true, false, cond, ◌&&◌}
use mathlib.Core.List.{List, [], ◌∷◌, ◌++◌}
use Prim.Native.Nat.{ℕ, suc, ◌≤◌, ◌<◌, ◌*◌, ◌^◌}
use native.Mathlib.Omega.{arith}
use lib.Dec.{eqb, ltb}
use lib.ListN.{length, get_or, drop}
use borrow.Author.Tests.{eqb-true, eqb-false, ltb-false}
use Rattle.ground.proofs.Bools.{and_left, and_right}
use Rattle.instructions.specs.declared.instr.Op.{Op}
use Rattle.instructions.specs.declared.instr.Instr.{Instr}
use Rattle.instructions.specs.declared.forms.Second.{Second}
use Rattle.opcodes.specs.Table.{opcode_of, modifier_of, op_of}
use Rattle.instructions.specs.Forms.{limits_of, size_of, fits, valid}
use Rattle.words.specs.Layout.{first_word, instr_in, rest_of, second_spare, spare_zero, words_of, opcode_in, modifier_in, bit3_in, negate_in, rs4_in, spare_in, counted}
use Rattle.refusals.specs.declared.Refusal.{Refusal}
use Rattle.refusals.specs.declared.Rule.{Rule}
use Rattle.words.specs.Reading.{refused, read_fields, read_op, read_from}
use Rattle.opcodes.proofs.Lookup.{op_opcode, op_modifier}
use Rattle.words.proofs.Sizes.{words_length}
use Rattle.words.proofs.Digits.{whole_word, whole_pair}

-- a valid instruction's words are the first n of a list
pub record Starts (ws : List ℕ) (i : Instr) (n : ℕ) : Type 0 where
  pub ok : valid i ≡ true
  pub words : ws ≡ words_of i ++ drop n ws
  pub count : n ≡ length (words_of i)

-- the instruction read is of the operation that was looked up
op_kept : (s : Second) (o : Op) (w v : ℕ) → (instr_in s o w v).op ≡ o
op_kept Second.Nothing o w v = refl
op_kept Second.Number o w v = refl
op_kept (Second.Registers x y z) o w v = refl

-- negate in its place is bit 2
negate_kept : (w : ℕ) (b : Bool) → eqb (negate_in w) 1 ≡ b → cond b (2 ^ 2) 0 ≡ negate_in w * 2 ^ 2
negate_kept w true e = let q : negate_in w ≡ 1 = eqb-true _ 1 e in omega arith
negate_kept w false e = let q : negate_in w ≡ 0 = only (negate_in w) (omega arith) (eqb-false _ 1 e) in omega arith
  where
    only : (n : ℕ) → n < 2 → (n ≡ 1 → ⊥) → n ≡ 0
    only n h e = omega arith

-- word 0 is made of the fields read from it
first_kept :
    (s : Second) (o : Op) (w v : ℕ) → opcode_in w ≡ opcode_of o → modifier_in w ≡ modifier_of o → bit3_in w ≡ 0 → first_word (instr_in s o w v) ≡ w
first_kept Second.Nothing o w v c m z = rw (negate_kept w (eqb (negate_in w) 1) refl, ← c, ← m) (whole_word w z)
first_kept Second.Number o w v c m z = rw (negate_kept w (eqb (negate_in w) 1) refl, ← c, ← m) (whole_word w z)
first_kept (Second.Registers x y t) o w v c m z = rw (negate_kept w (eqb (negate_in w) 1) refl, ← c, ← m) (whole_word w z)

-- so is word 1, and what stands after it stays
rest_kept :
    (s : Second) (o : Op) (w : ℕ) (r : List ℕ) → size_of s ≤ suc (length r) → second_spare s (get_or r 0 0) ≡ true →
    rest_of s (instr_in s o w (get_or r 0 0)) ++ drop (size_of s) (w ∷ r) ≡ r
rest_kept Second.Nothing o w r h z = refl
rest_kept Second.Number o w [] h z = absurd (omega arith)
rest_kept Second.Number o w (v ∷ r) h z = refl
rest_kept (Second.Registers x y t) o w [] h z = absurd (omega arith)
rest_kept (Second.Registers x y t) o w (v ∷ r) h z =
    let rs4 : rs4_in v ≡ 0 = eqb-true _ 0 (and_left (eqb (rs4_in v) 0) (eqb (spare_in v) 0) z) in
    let unused : spare_in v ≡ 0 = eqb-true _ 0 (and_right (eqb (rs4_in v) 0) (eqb (spare_in v) 0) z) in
    rw (whole_pair v rs4 unused)

-- what two answers that are alike say
pub said_once : {a b : Fetched} {E : Type 0} → ◌≡◌ {A = Result Fetched E} (Ok a) (Ok b) → a ≡ b
said_once e = cc

-- two answers that are not alike
unread : {A : Type 0} (i : Instr) (n : ℕ) (r : Refusal) → Err r ≡ Ok (counted i n) → A
unread i n r e = absurd (let z : ◌≡◌ {A = ℕ} 0 1 = cc in omega arith)

module _ (i : Instr) (n at : ℕ) where
  -- all tests passed
  passed :
      (o : Op) (w : ℕ) (r : List ℕ) → op_of (opcode_in w) (modifier_in w) ≡ Some o → size_of (limits_of o).second ≤ suc (length r) →
      (spare_zero (limits_of o).second w (get_or r 0 0) && fits (limits_of o) (instr_in (limits_of o).second o w (get_or r 0 0))) ≡ true →
      instr_in (limits_of o).second o w (get_or r 0 0) ≡ i → size_of (limits_of o).second ≡ n → Starts (w ∷ r) i n
  passed o w r named room t ei en =
      let s = (limits_of o).second in
      let v = get_or r 0 0 in
      let k = instr_in s o w v in
      let spare = and_left (spare_zero s w v) (fits (limits_of o) k) t in
      let bit3 : bit3_in w ≡ 0 = eqb-true _ 0 (and_left (eqb (bit3_in w) 0) (second_spare s v) spare) in
      let first : first_word k ≡ w = first_kept s o w v (op_opcode (opcode_in w) (modifier_in w) o named) (op_modifier (opcode_in w) (modifier_in w) o named) bit3 in
      let rest : rest_of s k ++ drop (size_of s) (w ∷ r) ≡ r = rest_kept s o w r room (and_right (eqb (bit3_in w) 0) (second_spare s v) spare) in
      let ok : valid k ≡ true = rw (op_kept s o w v) (and_right (spare_zero s w v) (fits (limits_of o) k) t) in
      let words : w ∷ r ≡ words_of k ++ drop (size_of s) (w ∷ r) =
      ap (λ (x : ℕ). x ∷ r) (sym first) ∙ ap (λ (q : List ℕ). first_word k ∷ q) (sym rest)
      ∙ ap (λ (q : Op). first_word k ∷ (rest_of (limits_of q).second k ++ drop (size_of s) (w ∷ r))) (sym (op_kept s o w v)) in
      record {
        ok = rw (← ei) ok;
        words = rw (← en, ← ei) words;
        count = sym en ∙ ap (λ (q : Op). size_of (limits_of q).second) (sym (op_kept s o w v) ∙ ap (λ (j : Instr). j.op) ei) ∙ sym (words_length i);
      }

  pub read_back : (ws : List ℕ) → read_from ws at ≡ Ok (counted i n) → Starts ws i n
  read_back [] e = unread i n _ e
  read_back (w ∷ r) e = looked (op_of (opcode_in w) (modifier_in w)) refl e
    where
      tested :
          (o : Op) → op_of (opcode_in w) (modifier_in w) ≡ Some o → size_of (limits_of o).second ≤ suc (length r) → (b : Bool) →
          (spare_zero (limits_of o).second w (get_or r 0 0) && fits (limits_of o) (instr_in (limits_of o).second o w (get_or r 0 0))) ≡ b →
          cond b (Ok (counted (instr_in (limits_of o).second o w (get_or r 0 0)) (size_of (limits_of o).second))) (refused Rule.Field at)
          ≡ Ok (counted i n) → Starts (w ∷ r) i n
      tested o named room true t e =
          let same = said_once e in
          passed o w r named room t (ap (λ (f : Fetched). f.instr) same) (ap (λ (f : Fetched). f.words) same)
      tested o named room false t e = unread i n _ e

      sized :
          (o : Op) → op_of (opcode_in w) (modifier_in w) ≡ Some o → (b : Bool) → ltb (suc (length r)) (size_of (limits_of o).second) ≡ b →
          cond b (refused Rule.NoSecond at) (read_fields o (limits_of o) w (get_or r 0 0) at) ≡ Ok (counted i n) → Starts (w ∷ r) i n
      sized o named true h e = unread i n _ e
      sized o named false h e = tested o named (ltb-false _ _ h) _ refl e

      looked :
          (found : Option Op) → op_of (opcode_in w) (modifier_in w) ≡ found → read_op found w r at ≡ Ok (counted i n) → Starts (w ∷ r) i n
      looked None h e = unread i n _ e
      looked (Some o) h e = sized o h _ refl e
