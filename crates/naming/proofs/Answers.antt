-- What writing a text answers, and when: 12, 13 or written, exactly one of them.
use Rattle.std.specs.Prelude.{Result, Ok, Err, Some}
use mathlib.Core.Path.{◌≡◌, refl, ap, ◌∙◌}
use mathlib.Core.Bool.{Bool, true, false}
use mathlib.Core.List.{List, ◌++◌}
use mathlib.Core.Logic.{◌↔◌}
use Prim.Native.Nat.{ℕ, ◌≤◌, ◌<◌, ◌^◌}
use native.Mathlib.Omega.{arith}
use lib.Dec.{leb}
use lib.ListN.{length, take, drop}
use lib.Seq.{take-append_seam}
use borrow.Author.Tests.{leb-true, leb-false, lt-leb}
use Rattle.instructions.specs.declared.instr.Instr.{Instr}
use Rattle.instructions.specs.Forms.{valid}
use Rattle.refusals.specs.declared.Refusal.{Refusal}
use Rattle.refusals.specs.declared.Rule.{Rule}
use Rattle.refusals.specs.Table.{broken}
use Rattle.texts.specs.Text.{text_of}
use Rattle.texts.specs.Lines.{instr_of}
use Rattle.naming.specs.Writing.{Written, written, unwritten, text_in}
use Rattle.texts.proofs.Theorems.{text_reads}

-- every instruction and output has one of these
data Outcome (i : Instr) (out : List ℕ) : Type 0 where
  no_words : valid i ≡ false → text_in i out ≡ unwritten Rule.NoWords out → Outcome i out
  no_room : valid i ≡ true → length out < length (text_of i) → text_in i out ≡ unwritten Rule.Short out → Outcome i out
  wrote :
      valid i ≡ true → length (text_of i) ≤ length out →
      text_in i out ≡ written (Ok (length (text_of i))) (text_of i ++ drop (length (text_of i)) out) → Outcome i out

outcome : (i : Instr) (out : List ℕ) → Outcome i out
outcome i out = tested (valid i) refl
  where
    fitted : valid i ≡ true → (b : Bool) → leb (length (text_of i)) (length out) ≡ b → Outcome i out
    fitted ok true e = Outcome.wrote ok (leb-true _ _ e) (rw (ok, e))
    fitted ok false e = Outcome.no_room ok (leb-false _ _ e) (rw (ok, e))

    tested : (b : Bool) → valid i ≡ b → Outcome i out
    tested true ok = fitted ok (leb (length (text_of i)) (length out)) refl
    tested false bad = Outcome.no_words bad (rw bad)

one_refusal : {x : Result ℕ Refusal} {r q : Refusal} → x ≡ Err r → x ≡ Err q → r.number ≡ q.number
one_refusal {r = r} {q = q} a b = let same : r ≡ q = cc in ap (λ (z : Refusal). z.number) same

one_count : {x : Result ℕ Refusal} {m n : ℕ} → x ≡ Ok m → x ≡ Ok n → m ≡ n
one_count a b = cc

not_both : {x : Result ℕ Refusal} {r : Refusal} {n : ℕ} → x ≡ Err r → x ≡ Ok n → ⊥
not_both a b = let z : ◌≡◌ {A = ℕ} 0 1 = cc in omega arith

module _ (i : Instr) (out : List ℕ) where
  answered : {w : Written} → text_in i out ≡ w → (text_in i out).answer ≡ w.answer
  answered f = ap (λ (x : Written). x.answer) f

  -- 12 exactly if no words give the instruction
  pub no_words_give : ((text_in i out).answer ≡ Err (broken Rule.NoWords 0)) ↔ (valid i ≡ false)
  no_words_give = (λ e. forth e (outcome i out), λ bad. rw bad)
    where
      forth : (text_in i out).answer ≡ Err (broken Rule.NoWords 0) → Outcome i out → valid i ≡ false
      forth e (Outcome.no_words bad f) = bad
      forth e (Outcome.no_room ok h f) = let z = one_refusal e (answered f) in absurd (omega arith)
      forth e (Outcome.wrote ok h f) = absurd (not_both e (answered f))

  -- 13 exactly if words give it and its text is longer than the output
  pub no_room_left :
      ((text_in i out).answer ≡ Err (broken Rule.Short 0)) ↔ ((valid i ≡ true) × (length out < length (text_of i)))
  no_room_left = (λ e. forth e (outcome i out), λ h. rw (h.0, lt-leb (length (text_of i)) (length out) h.1))
    where
      forth :
          (text_in i out).answer ≡ Err (broken Rule.Short 0) → Outcome i out → (valid i ≡ true) × (length out < length (text_of i))
      forth e (Outcome.no_words bad f) = let z = one_refusal e (answered f) in absurd (omega arith)
      forth e (Outcome.no_room ok h f) = (ok, h)
      forth e (Outcome.wrote ok h f) = absurd (not_both e (answered f))

  -- else it is written: the text stands first, and the rest is as lent
  pub writes :
      (n : ℕ) → (text_in i out).answer ≡ Ok n →
      (valid i ≡ true) × (n ≡ length (text_of i)) × (n ≤ length out) × ((text_in i out).after ≡ text_of i ++ drop n out)
  writes n e = by (outcome i out)
    where
      by : Outcome i out → (valid i ≡ true) × (n ≡ length (text_of i)) × (n ≤ length out) × ((text_in i out).after ≡ text_of i ++ drop n out)
      by (Outcome.no_words bad f) = absurd (not_both (answered f) e)
      by (Outcome.no_room ok h f) = absurd (not_both (answered f) e)
      by (Outcome.wrote ok h f) =
          let same : n ≡ length (text_of i) = one_count e (answered f) in
          (ok, same, rw same h, rw same (ap (λ (x : Written). x.after) f))

  -- a refusal leaves the output as lent
  pub refused_keeps : (r : Refusal) → (text_in i out).answer ≡ Err r → (text_in i out).after ≡ out
  refused_keeps r e = by (outcome i out)
    where
      by : Outcome i out → (text_in i out).after ≡ out
      by (Outcome.no_words bad f) = ap (λ (x : Written). x.after) f
      by (Outcome.no_room ok h f) = ap (λ (x : Written). x.after) f
      by (Outcome.wrote ok h f) = absurd (not_both e (answered f))

  -- what is written reads as the instruction
  pub written_reads : (n : ℕ) → i.number < 2 ^ 32 → (text_in i out).answer ≡ Ok n → instr_of (take n (text_in i out).after) ≡ Some i
  written_reads n small e =
      let h = writes n e in
      let front : take n (text_in i out).after ≡ text_of i = rw (h.3, h.1) (take-append_seam (text_of i) (drop (length (text_of i)) out)) in
      ap instr_of front ∙ text_reads i h.0 small
