-- What reading and writing answer, by the cases of their tests: each answer beside the facts that it was given for.
use Rattle.std.specs.Prelude.{Option, Some, None, Ok, Err}
use mathlib.Core.Path.{◌≡◌, refl, sym, ◌∙◌}
use mathlib.Core.Bool.{Bool, true, false, cond}
use mathlib.Core.List.{List, ◌++◌}
use Prim.Native.Nat.{ℕ, ◌≤◌, ◌<◌, ◌+◌, ◌-◌}
use native.Mathlib.Omega.{arith}
use lib.Dec.{ltb, leb}
use lib.ListN.{length, get_or, drop}
use borrow.Author.Tests.{leb-true, leb-false, ltb-true, ltb-false}
use Rattle.ground.proofs.Bools.{never}
use Rattle.ground.proofs.Tests.{false_of}
use Rattle.refusals.specs.declared.Refusal.{Refusal}
use Rattle.refusals.specs.declared.Rule.{Rule}
use Rattle.instructions.specs.declared.instr.Op.{Op}
use Rattle.instructions.specs.declared.instr.Instr.{Instr}
use Rattle.instructions.specs.declared.forms.Second.{Second}
use Rattle.opcodes.specs.Table.{op_of}
use Rattle.instructions.specs.Forms.{limits_of, size, valid}
use Rattle.words.specs.Layout.{instr_in, words_of, opcode_in, modifier_in, counted}
use Rattle.words.specs.Rules.{Names, Allowed, Breaks, no_operation, no_word, few_words, wrong_field}
use Rattle.words.specs.Reading.{refused, read_at}
use Rattle.words.specs.Writing.{written, unwritten, write_of}
use Rattle.opcodes.proofs.Lookup.{op_opcode, op_modifier}
use Rattle.opcodes.proofs.Rows.{table}
use Rattle.words.proofs.Sizes.{size_positive}
use Rattle.words.proofs.ReadSteps.{past, missing, short, whole}
use Rattle.words.proofs.FieldTests.{right, allowed, kept}

-- READING, at a place; w is the word there
module _ (ws : List ℕ) (at : ℕ) where
  abbrev w : ℕ
  w = get_or ws at 0

  found : (o : Op) → Names ws at o → op_of (opcode_in w) (modifier_in w) ≡ Some o
  found o h = rw (h.0, h.1) (table o).found

  names : (o : Op) → op_of (opcode_in w) (modifier_in w) ≡ Some o → Names ws at o
  names o e = (op_opcode (opcode_in w) (modifier_in w) o e, op_modifier (opcode_in w) (modifier_in w) o e)

  none_named : ((o : Op) → Names ws at o → ⊥) → op_of (opcode_in w) (modifier_in w) ≡ None
  none_named h = none (op_of (opcode_in w) (modifier_in w)) refl
    where
      none : (f : Option Op) → op_of (opcode_in w) (modifier_in w) ≡ f → op_of (opcode_in w) (modifier_in w) ≡ None
      none None e = e
      none (Some o) e = absurd (h o (names o e))

  -- the answer where all words of an operation are there
  module _ (o : Op) (h : Names ws at o) (room : at + size o ≤ length ws) where
    abbrev s : Second
    s = (limits_of o).second

    abbrev v : ℕ
    v = get_or ws (at + 1) 0

    answer : read_at ws at ≡ cond (right (limits_of o) o w v) (Ok (counted (instr_in s o w v) (size o))) (refused Rule.Field at)
    answer =
        let here : at < length ws = omega (arith, size_positive s) in
        whole ws at here refl (found o h) refl refl v refl (omega arith)

    not_allowed : (Allowed (limits_of o) w v → ⊥) → read_at ws at ≡ refused Rule.Field at
    not_allowed f = answer ∙ rw (false_of (right (limits_of o) o w v) (λ e. f (allowed (limits_of o) o w v e))) refl

-- a rule that is broken is answered
pub breaks_answered : (ws : List ℕ) (at : ℕ) (r : Refusal) → Breaks ws at r → read_at ws at ≡ Err r
breaks_answered ws at r (no_operation here none) = missing ws at here (none_named ws at none)
breaks_answered ws at r (no_word h) = past ws at h
breaks_answered ws at r (few_words o here named h) =
    let p : length ws - at < size o = omega arith in
    short ws at here refl (found ws at o named) refl refl p
breaks_answered ws at r (wrong_field o named room f) = not_allowed ws at o named room f

-- every list and place has one of these
pub data Verdict (ws : List ℕ) (at : ℕ) : Type 0 where
  broken : (r : Refusal) → Breaks ws at r → read_at ws at ≡ Err r → Verdict ws at
  read : (i : Instr) (n : ℕ) → read_at ws at ≡ Ok (counted i n) → Verdict ws at

breaking : {ws : List ℕ} {at : ℕ} {r : Refusal} → Breaks ws at r → Verdict ws at
breaking b = broken _ b (breaks_answered _ _ _ b)

pub verdict : (ws : List ℕ) (at : ℕ) → Verdict ws at
verdict ws at = first (leb (length ws) at) refl
  where
    third : (o : Op) → Names ws at o → at + size o ≤ length ws → Verdict ws at
    third o h room = by (right (limits_of o) o (get_or ws at 0) (get_or ws (at + 1) 0)) refl
      where
        by : (b : Bool) → right (limits_of o) o (get_or ws at 0) (get_or ws (at + 1) 0) ≡ b → Verdict ws at
        by true e =
            read (instr_in (limits_of o).second o (get_or ws at 0) (get_or ws (at + 1) 0)) (size o) (answer ws at o h room ∙ rw e refl)
        by false e =
            let f : Allowed (limits_of o) (get_or ws at 0) (get_or ws (at + 1) 0) → ⊥ =
            λ a. never (sym e ∙ kept (limits_of o) o (get_or ws at 0) (get_or ws (at + 1) 0) a) in
            breaking (wrong_field o h room f)

    second : at < length ws → (o : Op) → Names ws at o → (b : Bool) → ltb (length ws) (at + size o) ≡ b → Verdict ws at
    second here o h true e = breaking (few_words o here h (ltb-true _ _ e))
    second here o h false e = third o h (ltb-false _ _ e)

    looked : at < length ws → (f : Option Op) → op_of (opcode_in (get_or ws at 0)) (modifier_in (get_or ws at 0)) ≡ f → Verdict ws at
    looked here None e =
        let none : (o : Op) → Names ws at o → ⊥ = λ o h. (let g = found ws at o h in let z : ◌≡◌ {A = ℕ} 0 1 = cc in absurd (omega arith)) in
        breaking (no_operation here none)
    looked here (Some o) e = second here o (names ws at o e) (ltb (length ws) (at + size o)) refl

    first : (b : Bool) → leb (length ws) at ≡ b → Verdict ws at
    first true e = breaking (no_word (leb-true _ _ e))
    first false e = looked (leb-false _ _ e) (op_of (opcode_in (get_or ws at 0)) (modifier_in (get_or ws at 0))) refl

-- WRITING

-- every instruction and output has one of these
pub data Outcome (i : Instr) (out : List ℕ) : Type 0 where
  no_words : valid i ≡ false → write_of i out ≡ unwritten Rule.NoWords out → Outcome i out
  no_room : valid i ≡ true → length out < length (words_of i) → write_of i out ≡ unwritten Rule.Short out → Outcome i out
  wrote :
      valid i ≡ true → length (words_of i) ≤ length out →
      write_of i out ≡ written (Ok (length (words_of i))) (words_of i ++ drop (length (words_of i)) out) → Outcome i out

pub outcome : (i : Instr) (out : List ℕ) → Outcome i out
outcome i out = tested (valid i) refl
  where
    fitted : valid i ≡ true → (b : Bool) → leb (length (words_of i)) (length out) ≡ b → Outcome i out
    fitted ok true e = wrote ok (leb-true _ _ e) (rw (ok, e))
    fitted ok false e = no_room ok (leb-false _ _ e) (rw (ok, e))

    tested : (b : Bool) → valid i ≡ b → Outcome i out
    tested true ok = fitted ok (leb (length (words_of i)) (length out)) refl
    tested false bad = no_words bad (rw bad)
