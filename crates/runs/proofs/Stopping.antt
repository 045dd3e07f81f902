-- A run that answers a fault has stopped before the instruction that faults: by induction along the run.
use mathlib.Core.Path.{◌≡◌, sym, ap, ◌∙◌}
use mathlib.Core.Bool.{false}
use mathlib.Core.List.{List}
use Prim.Native.Nat.{ℕ}
use native.Mathlib.Omega.{arith}
use Rattle.faulting.specs.declared.faults.Faults.{Faults}
use Rattle.faulting.specs.Kinds.{clear}
use Rattle.stepping.specs.declared.settings.Settings.{Settings}
use Rattle.stepping.specs.declared.answers.Outcome.TheVariants.{Ended, OutOfBudget, Fault}
use Rattle.stepping.specs.Machine.{Machine}
use Rattle.stepping.specs.Run.{Ran, ended_of, step_at, run_of}
use Rattle.stepping.proofs.Runs.{run_induction}

pub same_faults : (f g : Faults) → Fault f ≡ Fault g → f ≡ g
same_faults f g e = cc

ended_fault : (f : Faults) → Ended ≡ Fault f → ⊥
ended_fault f e = let z : ◌≡◌ {A = ℕ} 0 1 = cc in omega arith

budget_fault : (f : Faults) → OutOfBudget ≡ Fault f → ⊥
budget_fault f e = let z : ◌≡◌ {A = ℕ} 0 1 = cc in omega arith

-- the next instruction of the machine m is one that faults at these lanes
pub record FaultsAt (s : Settings) (code : List ℕ) (m : Machine) (f : Faults) : Type 0 where
  pub unended : ended_of s code m ≡ false
  pub unclear : clear f ≡ false
  pub faults : f ≡ (step_at s code m).faults

module _ (s : Settings) (code : List ℕ) (f : Faults) where
  abbrev Stops : Ran → Type 0
  Stops r = r.outcome ≡ Fault f → FaultsAt s code r.end f

  pub run_stops : (b : ℕ) (m : Machine) → Stops (run_of s code b m)
  run_stops =
      run_induction s code (λ b m r. Stops r) (λ b m e z. absurd (ended_fault f z)) (λ m e z. absurd (budget_fault f z))
      (λ b m e c z.
      let y : f ≡ (step_at s code m).faults = sym (same_faults (step_at s code m).faults f z) in
      record { unended = e; unclear = ap clear y ∙ c; faults = y })
      (λ b m r e c h. h)
