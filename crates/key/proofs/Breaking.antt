-- Writing a key is refused exactly by the first line of the page's table that is broken.
use Rattle.std.specs.Prelude.{Result, Ok, Err}
use Prim.Native.Nat.{ℕ}
use native.Mathlib.Omega.{arith}
use mathlib.Core.Path.{◌≡◌, refl, sym, ap, ◌∙◌, subst}
use mathlib.Core.Bool.{Bool, true, false, cond}
use mathlib.Core.Logic.{◌↔◌}
use mathlib.Core.List.{List}
use lib.Dec.{leb}
use lib.ListN.{length}
use borrow.Author.Tests.{leb-false, lt-leb}
use Rattle.refusals.specs.declared.Rule.{Rule}
use Rattle.refusals.specs.Table.{broken}
use Rattle.refusals.specs.declared.Refusal.{Refusal}
use Rattle.ground.proofs.Bools.{never}
use Rattle.ground.proofs.Tests.{false_of}
use Rattle.body.specs.Body.{Parts, bytes_of_body}
use Rattle.body.specs.Layout.{fits_layout}
use Rattle.faulting.specs.declared.faults.Faults.{Faults}
use Rattle.stepping.specs.declared.answers.Outcome.{Outcome}
use Rattle.stepping.specs.declared.answers.Replayed.{Replayed}
use Rattle.key.specs.Key.{parts_of, body_key, outcome_key, key_of}
use Rattle.key.specs.Refusals.{KeyBreaks, not_faulted, no_body, no_room}

module _ (kernel : ℕ) (r : Replayed) (out : List ℕ) where
  abbrev parts : Faults → Parts
  parts f = parts_of kernel f r.state

  -- the answer of the two tests
  abbrev answered : Parts → Bool → Bool → Result ℕ Refusal
  answered p fit roomy = cond fit (cond roomy (Ok (length (bytes_of_body p))) (Err (broken Rule.Short 0))) (Err (broken Rule.NotOfLayout 0))

  body_answer_lem : (p : Parts) (fit roomy : Bool) → fits_layout p ≡ fit → leb (length (bytes_of_body p)) (length out) ≡ roomy
      → (body_key p out).answer ≡ answered p fit roomy
  unfolding body_key
  body_answer_lem p true true a b = rw (a, b) refl
  body_answer_lem p true false a b = rw (a, b) refl
  body_answer_lem p false roomy a b = rw a refl

  broken_as : (x y : Refusal) → KeyBreaks kernel r out x → ◌≡◌ {A = Result ℕ Refusal} (Err x) (Err y) → KeyBreaks kernel r out y
  broken_as x y b e = let z : x ≡ y = cc in subst (KeyBreaks kernel r out) z b

  body_tested : (x : Refusal) (f : Faults) → r.outcome ≡ Outcome.Fault f → (fit roomy : Bool) → fits_layout (parts f) ≡ fit
      → leb (length (bytes_of_body (parts f))) (length out) ≡ roomy → answered (parts f) fit roomy ≡ Err x → KeyBreaks kernel r out x
  body_tested x f o false roomy a b e = broken_as (broken Rule.NotOfLayout 0) x (no_body f o (λ t. never (sym a ∙ t))) e
  body_tested x f o true false a b e = broken_as (broken Rule.Short 0) x (no_room f o a (leb-false _ _ b)) e
  body_tested x f o true true a b e = absurd (let z : ◌≡◌ {A = ℕ} 0 1 = cc in omega arith)

  unlike : (o : Outcome) (f : Faults) → r.outcome ≡ o → (o ≡ Outcome.Fault f → ⊥) → r.outcome ≡ Outcome.Fault f → ⊥
  unlike o f e g h = g (sym e ∙ h)

  tested : (x : Refusal) (o : Outcome) → r.outcome ≡ o → (outcome_key kernel o r.state out).answer ≡ Err x → KeyBreaks kernel r out x
  unfolding outcome_key
  tested x (Outcome.Fault f) h e =
      body_tested x f h (fits_layout (parts f)) (leb (length (bytes_of_body (parts f))) (length out)) refl refl
      (sym (body_answer_lem (parts f) (fits_layout (parts f)) (leb (length (bytes_of_body (parts f))) (length out)) refl refl) ∙ e)
  tested x Outcome.Ended h e =
      broken_as (broken Rule.NotOfLayout 0) x (not_faulted (λ f. unlike Outcome.Ended f h (λ z. (let y : ◌≡◌ {A = ℕ} 0 1 = cc in omega arith)))) e
  tested x Outcome.OutOfBudget h e =
      broken_as (broken Rule.NotOfLayout 0) x (not_faulted (λ f. unlike Outcome.OutOfBudget f h (λ z. (let y : ◌≡◌ {A = ℕ} 0 1 = cc in omega arith)))) e
  tested x (Outcome.Refused q) h e =
      broken_as (broken Rule.NotOfLayout 0) x (not_faulted (λ f. unlike (Outcome.Refused q) f h (λ z. (let y : ◌≡◌ {A = ℕ} 0 1 = cc in omega arith)))) e

  not_keyed : (o : Outcome) → ((f : Faults) → o ≡ Outcome.Fault f → ⊥) → (outcome_key kernel o r.state out).answer ≡ Err (broken Rule.NotOfLayout 0)
  unfolding outcome_key
  not_keyed (Outcome.Fault f) g = absurd (g f refl)
  not_keyed Outcome.Ended g = refl
  not_keyed Outcome.OutOfBudget g = refl
  not_keyed (Outcome.Refused q) g = refl

  of_fault : (f : Faults) → r.outcome ≡ Outcome.Fault f → (key_of kernel r out).answer ≡ (body_key (parts f) out).answer
  unfolding key_of outcome_key
  of_fault f e = ap (λ (o : Outcome). (outcome_key kernel o r.state out).answer) e

  broken_is : (x : Refusal) → KeyBreaks kernel r out x → (key_of kernel r out).answer ≡ Err x
  unfolding key_of
  broken_is x (not_faulted g) = not_keyed r.outcome g
  broken_is x (no_body f o g) =
      of_fault f o ∙ body_answer_lem (parts f) false _ (false_of (fits_layout (parts f)) g) refl
  broken_is x (no_room f o a l) = of_fault f o ∙ body_answer_lem (parts f) true false a (lt-leb _ _ l)

  -- WRITING A KEY is refused exactly by the first of 14 and 13 that is broken
  pub key_refused : (x : Refusal) → ((key_of kernel r out).answer ≡ Err x) ↔ KeyBreaks kernel r out x
  unfolding key_of
  key_refused x = (tested x r.outcome refl, broken_is x)
