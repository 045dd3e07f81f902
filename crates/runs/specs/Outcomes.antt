-- What a run answers, after how many steps, and the machine where it stops. Page 01, "One step".
use Rattle.std.specs.Prelude.{ℕ, ◌≤◌, ◌<◌, ◌≡◌, true, false, List}
use Rattle.faulting.specs.Kinds.{clear}
use Rattle.stepping.specs.declared.settings.Settings.{Settings}
use Rattle.stepping.specs.declared.answers.Outcome.TheVariants.{Ended, OutOfBudget, Fault}
use Rattle.stepping.specs.Machine.{Machine}
use Rattle.stepping.specs.Run.{Ran, ended_of, step_at}
use Rattle.runs.specs.Running.{ComesBy}

-- from the machine m, with a budget of b
pub data Answers (s : Settings) (code : List ℕ) (b : ℕ) (m : Machine) : Ran → Type 0 where
  -- it has ended, the budget spent or not
  ended : {n : ℕ} {k : Machine} → ComesBy s code n m k → n ≤ b → ended_of s code k ≡ true
      → Answers s code b m (record { outcome = Ended; steps = n; end = k })
  -- it has not, and no budget is left
  spent : {k : Machine} → ComesBy s code b m k → ended_of s code k ≡ false → Answers s code b m (record { outcome = OutOfBudget; steps = b; end = k })
  -- there is budget left, and the next instruction faults: it isn't counted, and everything is as before it
  faulted : {n : ℕ} {k : Machine} → ComesBy s code n m k → n < b → ended_of s code k ≡ false → clear (step_at s code k).faults ≡ false
      → Answers s code b m (record { outcome = Fault (step_at s code k).faults; steps = n; end = k })
