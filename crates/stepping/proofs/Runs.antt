-- A run at each kind of machine, and the induction along it.
use Prim.Native.Nat.{ℕ, zero, suc, ◌+◌, ◌≤◌}
use mathlib.Core.Path.{◌≡◌, ap, sym, ◌∙◌, subst}
use mathlib.Core.Bool.{true, false}
use mathlib.Core.Logic.{⊎_elim}
use mathlib.Core.List.{List}
use native.Mathlib.Nat.{zero-add, add_assoc}
use native.Mathlib.Omega.{arith}
use Rattle.ground.proofs.Tests.{true_or_false}
use Rattle.faulting.specs.Kinds.{clear}
use Rattle.words.specs.declared.reading.Fetched.{Fetched}
use Rattle.stepping.specs.declared.settings.Settings.{Settings}
use Rattle.stepping.specs.declared.answers.Outcome.{Outcome}
use Rattle.stepping.specs.declared.answers.Outcome.TheVariants.{Ended, OutOfBudget, Fault}
use Rattle.stepping.specs.Machine.{Machine}
use Rattle.stepping.specs.Step.{step_of}
use Rattle.stepping.specs.Run.{Ran, stop, later, ended_of, step_at, onward, run_of}

abbrev pub done : Outcome → ℕ → Machine → Ran
done o n m = record { outcome = o; steps = n; end = m }

-- ---- steps made before
pub later_zero : (r : Ran) → later 0 r ≡ r
later_zero r = ap (λ (k : ℕ). done r.outcome k r.end) (zero-add r.steps)

pub later_later : (a b : ℕ) (r : Ran) → later a (later b r) ≡ later (a + b) r
later_later a b r = ap (λ (k : ℕ). done r.outcome k r.end) (sym (add_assoc a b r.steps))

-- ---- a step that faults leaves the machine as it was
pub keeps : (s : Settings) (x : Fetched) (m : Machine) → clear (step_of s x m).faults ≡ false → (step_of s x m).end ≡ m
unfolding step_of
keeps s x m e = rw e

module _ (s : Settings) (code : List ℕ) where
  -- ---- the run, at each kind of machine
  pub at_ended : (b : ℕ) (m : Machine) → ended_of s code m ≡ true → run_of s code b m ≡ stop Ended m
  unfolding run_of
  at_ended zero m e = rw e
  at_ended (suc b) m e = rw e

  pub at_budget : (m : Machine) → ended_of s code m ≡ false → run_of s code 0 m ≡ stop OutOfBudget m
  unfolding run_of
  at_budget m e = rw e

  pub at_step :
      (b : ℕ) (m : Machine) → ended_of s code m ≡ false →
      run_of s code (suc b) m ≡ onward (step_at s code m) m (λ (v : Unit {0}). run_of s code b (step_at s code m).end)
  unfolding run_of
  at_step b m e = rw e

  pub at_fault :
      (b : ℕ) (m : Machine) → ended_of s code m ≡ false → clear (step_at s code m).faults ≡ false →
      run_of s code (suc b) m ≡ stop (Fault (step_at s code m).faults) m
  at_fault b m e f = at_step b m e ∙ rw f

  pub at_clear :
      (b : ℕ) (m : Machine) → ended_of s code m ≡ false → clear (step_at s code m).faults ≡ true →
      run_of s code (suc b) m ≡ later 1 (run_of s code b (step_at s code m).end)
  at_clear b m e f = at_step b m e ∙ rw f

-- ---- what holds where a run stops, and of a run once it holds a step later, holds of every run
module _ (s : Settings) (code : List ℕ) (P : ℕ → Machine → Ran → Type 0)
    (ended : (b : ℕ) (m : Machine) → ended_of s code m ≡ true → P b m (stop Ended m))
    (spent : (m : Machine) → ended_of s code m ≡ false → P 0 m (stop OutOfBudget m))
    (faulted :
    (b : ℕ) (m : Machine) → ended_of s code m ≡ false → clear (step_at s code m).faults ≡ false →
    P (suc b) m (stop (Fault (step_at s code m).faults) m))
    (stepped :
    (b : ℕ) (m : Machine) (r : Ran) → ended_of s code m ≡ false → clear (step_at s code m).faults ≡ true → P b (step_at s code m).end r →
    P (suc b) m (later 1 r)) where
  pub run_induction : (b : ℕ) (m : Machine) → P b m (run_of s code b m)
  run_induction zero m =
      ⊎_elim
      (λ e. subst (P 0 m) (sym (at_ended s code 0 m e)) (ended 0 m e))
      (λ e. subst (P 0 m) (sym (at_budget s code m e)) (spent m e))
      (true_or_false (ended_of s code m))
  run_induction (suc b) m =
      let next : Machine = (step_at s code m).end in
      ⊎_elim
      (λ e. subst (P (suc b) m) (sym (at_ended s code (suc b) m e)) (ended (suc b) m e))
      (λ e.
      ⊎_elim
      (λ c. subst (P (suc b) m) (sym (at_clear s code b m e c)) (stepped b m (run_of s code b next) e c (run_induction b next)))
      (λ c. subst (P (suc b) m) (sym (at_fault s code b m e c)) (faulted b m e c))
      (true_or_false (clear (step_at s code m).faults)))
      (true_or_false (ended_of s code m))

-- a run makes no more steps than its budget
pub steps_most : (s : Settings) (code : List ℕ) (b : ℕ) (m : Machine) → (run_of s code b m).steps ≤ b
steps_most s code =
    run_induction s code (λ b m r. r.steps ≤ b) (λ b m e. omega arith) (λ m e. omega arith) (λ b m e c. omega arith)
    (λ b m r e c h. omega (arith, h))
