-- A run of a + b steps is a run of a, and, where that stopped for want of budget, a run of b from where it stopped.
use Prim.Native.Nat.{ℕ, ◌+◌}
use mathlib.Core.Path.{◌≡◌, refl, ap, sym, ◌∙◌}
use mathlib.Core.List.{List}
use native.Mathlib.Nat.{zero-add, suc-add}
use Rattle.stepping.specs.declared.settings.Settings.{Settings}
use Rattle.stepping.specs.declared.answers.Outcome.{Outcome}
use Rattle.stepping.specs.declared.answers.Outcome.TheVariants.{Ended, OutOfBudget, Fault, Refused}
use Rattle.stepping.specs.Machine.{Machine}
use Rattle.stepping.specs.Run.{Ran, later, run_of}
use Rattle.stepping.proofs.Runs.{at_ended, at_fault, at_clear, later_later, later_zero, run_induction}

-- what a later run makes of an earlier answer: it goes on only where the budget ran out
abbrev pub following : Outcome → Ran → Ran → Ran
following OutOfBudget earlier further = further
following Ended earlier further = earlier
following (Fault f) earlier further = earlier
following (Refused q) earlier further = earlier

module _ (s : Settings) (code : List ℕ) (b : ℕ) where
  abbrev pub go_on : Ran → Ran
  go_on r = following r.outcome r (later r.steps (run_of s code b r.end))

  following_later : (o : Outcome) (n : ℕ) (r x : Ran) → following o (later n r) (later n x) ≡ later n (following o r x)
  following_later OutOfBudget n r x = refl
  following_later Ended n r x = refl
  following_later (Fault f) n r x = refl
  following_later (Refused q) n r x = refl

  go_on_later : (n : ℕ) (r : Ran) → go_on (later n r) ≡ later n (go_on r)
  go_on_later n r =
      ap (following r.outcome (later n r)) (sym (later_later n r.steps (run_of s code b r.end)))
      ∙ following_later r.outcome n r (later r.steps (run_of s code b r.end))

  pub runs_add : (a : ℕ) (m : Machine) → run_of s code (a + b) m ≡ go_on (run_of s code a m)
  runs_add =
      run_induction s code (λ a m r. run_of s code (a + b) m ≡ go_on r) (λ a m e. at_ended s code (a + b) m e)
      (λ m e. ap (λ (k : ℕ). run_of s code k m) (zero-add b) ∙ sym (later_zero (run_of s code b m)))
      (λ a m e f. ap (λ (k : ℕ). run_of s code k m) (suc-add a b) ∙ at_fault s code (a + b) m e f)
      (λ a m r e f h.
      ap (λ (k : ℕ). run_of s code k m) (suc-add a b) ∙ at_clear s code (a + b) m e f ∙ ap (later 1) h ∙ sym (go_on_later 1 r))
