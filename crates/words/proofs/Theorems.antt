-- What is proved of reading and writing one instruction, over all words, places, instructions and outputs. Reading gives exactly the valid
-- instructions whose words stand there (`reads`), and refuses exactly by the first rule broken (`refuses`); writing undoes reading, and
-- reading undoes writing.
use Rattle.std.specs.Prelude.{Result, Ok, Err}
use mathlib.Core.Path.{◌≡◌, sym, ◌∙◌, ap, subst}
use mathlib.Core.Bool.{true}
use mathlib.Core.List.{List, [], ◌++◌}
use mathlib.Core.Logic.{◌↔◌}
use Prim.Native.Nat.{ℕ, zero, suc, ◌≤◌, ◌<◌, ◌^◌}
use native.Mathlib.Omega.{arith}
use lib.ListN.{length, get_or, take, drop}
use borrow.Author.Tests.{le-leb, lt-leb}
use Rattle.ground.proofs.Bools.{never}
use Rattle.refusals.specs.declared.Refusal.{Refusal}
use Rattle.refusals.specs.declared.Rule.{Rule}
use Rattle.refusals.specs.Table.{broken}
use Rattle.instructions.specs.declared.instr.Instr.{Instr}
use Rattle.instructions.specs.Forms.{limits_of, valid}
use Rattle.words.specs.Layout.{words_of, counted}
use Rattle.words.specs.Rules.{Stands, Breaks}
use Rattle.words.specs.Reading.{read_from, read_at}
use Rattle.words.specs.Writing.{Written, written, write_of}
use Rattle.words.proofs.Validity.{fields, first_fits, rest_fits}
use Rattle.words.proofs.FromInstr.{read_written}
use Rattle.words.proofs.Standing.{stood, standing}
use Rattle.words.proofs.Verdicts.{Verdict, verdict, breaks_answered, Outcome, outcome}

-- READING

-- an instruction of n words is read exactly if it is valid, its words stand there, and they are n
pub reads : (ws : List ℕ) (at : ℕ) (i : Instr) (n : ℕ) → (read_at ws at ≡ Ok (counted i n)) ↔ (Stands ws at i × (n ≡ length (words_of i)))
reads ws at i n = (stood ws at i n, λ h. standing ws at i h.0 ∙ ap (λ (n : ℕ). Ok (counted i n)) (sym h.1))

-- a refusal is answered exactly if it is of the first rule broken
pub refuses : (ws : List ℕ) (at : ℕ) (r : Refusal) → (read_at ws at ≡ Err r) ↔ Breaks ws at r
refuses ws at r = (λ e. forth e (verdict ws at), breaks_answered ws at r)
  where
    forth : read_at ws at ≡ Err r → Verdict ws at → Breaks ws at r
    forth e (Verdict.read i n f) = let z : ◌≡◌ {A = ℕ} 0 1 = cc in absurd (omega arith)
    forth e (Verdict.broken other b f) = let same : other ≡ r = cc in subst (Breaks ws at) same b

-- WRITING

-- the words of a valid instruction are words: each is below 2^32
pub words_fit : (i : Instr) → valid i ≡ true → i.number < 2 ^ 32 → (k : ℕ) → get_or (words_of i) k 0 < 2 ^ 32
words_fit i ok n zero = first_fits i (fields i ok)
words_fit i ok n (suc k) = rest_fits (limits_of i.op).second i k (fields i ok).second (fields i ok).room n

-- one output has one answer: two refusals are one, two counts are one, and a refusal is no count
one_refusal : {x : Result ℕ Refusal} {r q : Refusal} → x ≡ Err r → x ≡ Err q → r.number ≡ q.number
one_refusal {r = r} {q = q} e f = let same : r ≡ q = cc in ap (λ (z : Refusal). z.number) same

one_count : {x : Result ℕ Refusal} {m n : ℕ} → x ≡ Ok m → x ≡ Ok n → m ≡ n
one_count e f = cc

not_both : {x : Result ℕ Refusal} {r : Refusal} {n : ℕ} → x ≡ Err r → x ≡ Ok n → ⊥
not_both e f = let z : ◌≡◌ {A = ℕ} 0 1 = cc in omega arith

module _ (i : Instr) (out : List ℕ) where
  answered : {w : Written} → write_of i out ≡ w → (write_of i out).answer ≡ w.answer
  answered f = ap (λ (x : Written). x.answer) f

  -- 12 exactly if no words read as this instruction
  pub no_words_give :
      ((write_of i out).answer ≡ Err (broken Rule.NoWords 0)) ↔ ((ws : List ℕ) (at n : ℕ) → read_at ws at ≡ Ok (counted i n) → ⊥)
  no_words_give = (λ e. forth e (outcome i out), λ none. back none (outcome i out))
    where
      forth :
          (write_of i out).answer ≡ Err (broken Rule.NoWords 0) → Outcome i out →
          (ws : List ℕ) (at n : ℕ) → read_at ws at ≡ Ok (counted i n) → ⊥
      forth e (Outcome.no_words bad f) ws at n g = never (sym bad ∙ (stood ws at i n g).0.0)
      forth e (Outcome.no_room ok h f) ws at n g = let z = one_refusal e (answered f) in omega arith
      forth e (Outcome.wrote ok h f) ws at n g = not_both e (answered f)

      back :
          ((ws : List ℕ) (at n : ℕ) → read_at ws at ≡ Ok (counted i n) → ⊥) → Outcome i out →
          (write_of i out).answer ≡ Err (broken Rule.NoWords 0)
      back none (Outcome.no_words bad f) = ap (λ (x : Written). x.answer) f
      back none (Outcome.no_room ok h f) = absurd (none (words_of i ++ []) 0 _ (read_written i ok [] 0))
      back none (Outcome.wrote ok h f) = absurd (none (words_of i ++ []) 0 _ (read_written i ok [] 0))

  -- 13 exactly if its words are more than the output has
  pub no_room_left :
      ((write_of i out).answer ≡ Err (broken Rule.Short 0)) ↔ ((valid i ≡ true) × (length out < length (words_of i)))
  no_room_left = (λ e. forth e (outcome i out), λ h. rw (h.0, lt-leb (length (words_of i)) (length out) h.1))
    where
      forth :
          (write_of i out).answer ≡ Err (broken Rule.Short 0) → Outcome i out → (valid i ≡ true) × (length out < length (words_of i))
      forth e (Outcome.no_words bad f) = let z = one_refusal e (answered f) in absurd (omega arith)
      forth e (Outcome.no_room ok h f) = (ok, h)
      forth e (Outcome.wrote ok h f) = absurd (not_both e (answered f))

  -- it is written exactly if it is valid and fits: then its words stand first and the rest is as lent
  pub writes :
      (n : ℕ) → ((write_of i out).answer ≡ Ok n) ↔ ((valid i ≡ true) × (n ≡ length (words_of i)) × (n ≤ length out))
  writes n = (λ e. forth e (outcome i out), back)
    where
      forth : (write_of i out).answer ≡ Ok n → Outcome i out → (valid i ≡ true) × (n ≡ length (words_of i)) × (n ≤ length out)
      forth e (Outcome.no_words bad f) = absurd (not_both (answered f) e)
      forth e (Outcome.no_room ok h f) = absurd (not_both (answered f) e)
      forth e (Outcome.wrote ok h f) = let same = one_count e (answered f) in (ok, same, rw same h)

      back : (valid i ≡ true) × (n ≡ length (words_of i)) × (n ≤ length out) → (write_of i out).answer ≡ Ok n
      back h = let fit : length (words_of i) ≤ length out = rw h.1 at h.2 in rw (h.0, le-leb _ _ fit, h.1)

  -- a refusal leaves the output as lent
  pub refused_keeps : (r : Refusal) → (write_of i out).answer ≡ Err r → (write_of i out).after ≡ out
  refused_keeps r e = by (outcome i out)
    where
      by : Outcome i out → (write_of i out).after ≡ out
      by (Outcome.no_words bad f) = ap (λ (x : Written). x.after) f
      by (Outcome.no_room ok h f) = ap (λ (x : Written). x.after) f
      by (Outcome.wrote ok h f) = let a = ap (λ (x : Written). x.answer) f in let z : ◌≡◌ {A = ℕ} 0 1 = cc in absurd (omega arith)

  -- what is written reads back, whatever stood in the output
  pub written_reads : (n : ℕ) → (write_of i out).answer ≡ Ok n → read_at (write_of i out).after 0 ≡ Ok (counted i n)
  written_reads n e =
      let h = (writes n).0 e in
      let fit : length (words_of i) ≤ length out = rw h.1 at h.2 in
      let after : (write_of i out).after ≡ words_of i ++ drop (length (words_of i)) out = rw (h.0, le-leb _ _ fit) in
      ap (λ (l : List ℕ). read_from l 0) after ∙ read_written i h.0 (drop (length (words_of i)) out) 0 ∙ ap (λ (n : ℕ). Ok (counted i n)) (sym h.1)

  -- what was read, written again, gives the words that stood there
  pub read_writes :
      (ws : List ℕ) (at n : ℕ) → read_at ws at ≡ Ok (counted i n) → n ≤ length out →
      write_of i out ≡ written (Ok n) (take n (drop at ws) ++ drop n out)
  read_writes ws at n e room =
      let s = stood ws at i n e in
      let fit : length (words_of i) ≤ length out = rw s.1 at room in
      let words : take n (drop at ws) ≡ words_of i = ap (λ (k : ℕ). take k (drop at ws)) s.1 ∙ s.0.1 in
      rw (s.0.0, le-leb _ _ fit, words, s.1)
