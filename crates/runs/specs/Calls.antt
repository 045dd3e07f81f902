-- Calls that follow one another: the budget changes, and each goes on from what the one before answered.
use Rattle.std.specs.Prelude.{List, ℕ, ◌+◌}
use Rattle.stepping.specs.declared.settings.Settings.{Settings}
use Rattle.stepping.specs.Answer.{Answered}
use Rattle.replay.specs.Replay.{resume_of}

-- the settings, with another budget
abbrev pub budgeted : ℕ → Settings → Settings
budgeted b s = record { width = s.width; registers = s.registers; lanes = s.lanes; budget = b }

-- going on from what was answered, with a budget of b
abbrev pub resumed_with : ℕ → Settings → List ℕ → Answered → Answered
resumed_with b s code x = resume_of (budgeted b s) x.state code x.regs x.memories.device x.memories.local

-- an answer, with n steps made before
abbrev pub added : ℕ → Answered → Answered
added n x = record { outcome = x.outcome; steps = n + x.steps; state = x.state; regs = x.regs; memories = x.memories }
