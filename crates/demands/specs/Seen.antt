-- The steps of a run seen from outside: what a run of a shorter budget stands before.
use Rattle.std.specs.Prelude.{List, [], ◌∷◌, ℕ, zero, suc}
use Rattle.wave.specs.declared.state.State.{State}
use Rattle.stepping.specs.Answer.{state_machine}
use Rattle.runs.specs.Calls.{budgeted}
use Rattle.demands.specs.Steps.{Step, taken}
use Rattle.demands.specs.History.{Calls}

-- the step that would be taken from a state that was answered: the instruction at its place, by its active lanes and predicates
abbrev pub stood_before : List ℕ → State → Step
stood_before code state = taken code (state_machine state [] [] [])

-- n steps, the newest first, before es: step k is f k
abbrev pub newest_first : ℕ → (ℕ → Step) → List Step → List Step
newest_first zero f es = es
newest_first (suc n) f es = f n ∷ newest_first n f es

-- the same calls, the first with a budget of k
abbrev pub with_budget : ℕ → Calls → Calls
with_budget k c =
    record {
      settings = budgeted k c.settings;
      start = c.start;
      code = c.code;
      regs = c.regs;
      device = c.device;
      local = c.local;
      later = c.later;
    }
