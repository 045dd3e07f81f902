-- A run: steps until it has ended, some lane faults, or no budget is left. What follows a test is computed only where it is taken.
use Rattle.std.specs.Prelude.{ℕ, zero, suc, ◌+◌, Bool, true, false, ◌||◌, not, List, length, eqb, leb}
use Rattle.lanes.specs.declared.said.Block.{Block}
use Rattle.lanes.specs.Sets.{without}
use Rattle.fetching.specs.Fetching.{fetch_at}
use Rattle.faulting.specs.Kinds.{clear}
use Rattle.stepping.specs.declared.settings.Settings.{Settings}
use Rattle.stepping.specs.declared.answers.Outcome.{Outcome}
use Rattle.stepping.specs.declared.answers.Outcome.TheVariants.{Ended, OutOfBudget, Fault}
use Rattle.stepping.specs.declared.run.Stopped.{Stopped}
use Rattle.stepping.specs.Machine.{Machine, machine_of}
use Rattle.stepping.specs.Step.{launched_of, Stepped, step_of}

-- what a run answers, with the machine as it leaves it
pub record Ran : Type 0 where
  pub outcome : Outcome
  pub steps : ℕ
  pub end : Machine

-- it stops before the next instruction
abbrev pub stop : Outcome → Machine → Ran
stop o m = record { outcome = o; steps = 0; end = m }

-- n steps were made before
abbrev pub later : ℕ → Ran → Ran
later n r = record { outcome = r.outcome; steps = n + r.steps; end = r.end }

abbrev pub unless : {A : Type 0} → Bool → A → (Unit {0} → A) → A
unless true a otherwise = a
unless false a otherwise = otherwise tt

-- the place is the end of the code's so many words, or every launched lane has halted
abbrev pub ended_at : Settings → ℕ → ℕ → ℕ → Bool
ended_at s words place halted = leb words place || eqb (without (launched_of s) halted) 0

abbrev pub ended_of : Settings → List ℕ → Machine → Bool
ended_of s code m = ended_at s (length code) m.wave.place m.wave.halted

-- the instruction at the wave's place, carried out
abbrev pub step_at : Settings → List ℕ → Machine → Stepped
step_at s code m = step_of s (fetch_at code m.wave.place) m

-- a faulting instruction isn't counted
abbrev pub onward : Stepped → Machine → (Unit {0} → Ran) → Ran
onward x m rest = unless (not (clear x.faults)) (stop (Fault x.faults) m) (λ (u : Unit {0}). later 1 (rest tt))

-- at most so many steps from the machine m
unfoldable pub run_of : Settings → List ℕ → ℕ → Machine → Ran
run_of s code zero m = unless (ended_of s code m) (stop Ended m) (λ (u : Unit {0}). stop OutOfBudget m)
run_of s code (suc b) m =
    unless (ended_of s code m) (stop Ended m)
    (λ (u : Unit {0}). onward (step_at s code m) m (λ (v : Unit {0}). run_of s code b (step_at s code m).end))

-- the answer of the code, with the buffers as it leaves them
abbrev pub gone : Stopped → List Block → List ℕ → List ℕ → List ℕ → Ran
gone a path regs device local = record { outcome = a.outcome; steps = a.steps; end = machine_of a.hot path regs device local }
