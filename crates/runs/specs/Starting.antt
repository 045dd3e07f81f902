-- What a run answers, in one call or in slices: a launch or going on, and what is left of it gone on with.
use Rattle.std.specs.Prelude.{ℕ, zero, suc, Bool, true, false, List}
use Rattle.wave.specs.declared.state.State.{State}
use Rattle.stepping.specs.declared.settings.Settings.{Settings}
use Rattle.stepping.specs.declared.answers.Outcome.{Outcome}
use Rattle.stepping.specs.Answer.{Answered}
use Rattle.replay.specs.Replay.{launch_of, resume_of}
use Rattle.runs.specs.Calls.{resumed_with, added}

-- a launch, or going on with the state
unfoldable pub start_of : Bool → Settings → State → List ℕ → List ℕ → List ℕ → List ℕ → Answered
start_of true s state code regs device local = launch_of s code regs device local
start_of false s state code regs device local = resume_of s state code regs device local

-- the budget was spent
unfoldable pub stopped : Outcome → Bool
stopped Outcome.OutOfBudget = true
stopped Outcome.Ended = false
stopped (Outcome.Fault f) = false
stopped (Outcome.Refused r) = false

-- what was answered, gone on from with b steps more where the budget was spent
unfoldable pub gone_on : Bool → Settings → List ℕ → ℕ → Answered → Answered
gone_on true s code b x = added x.steps (resumed_with b s code x)
gone_on false s code b x = x

-- what was answered, with b steps left
unfoldable pub finished : Settings → List ℕ → ℕ → Answered → Answered
finished s code zero x = x
finished s code (suc b) x = gone_on (stopped x.outcome) s code (suc b) x
