-- What a run from a state answers, with the buffers as it leaves them.
use Rattle.std.specs.Prelude.{ℕ, List}
use Rattle.wave.specs.declared.state.State.{State}
use Rattle.wave.specs.Wave.{state_of}
use Rattle.compute.specs.Memory.{Memories, memories}
use Rattle.stepping.specs.declared.settings.Settings.{Settings}
use Rattle.stepping.specs.declared.answers.Outcome.{Outcome}
use Rattle.stepping.specs.declared.answers.Replayed.{Replayed}
use Rattle.stepping.specs.Machine.{Machine, machine_of}
use Rattle.stepping.specs.Run.{Ran, run_of}

-- the outcome, the steps, the state, the registers and the memories
pub record Answered : Type 0 where
  pub outcome : Outcome
  pub steps : ℕ
  pub state : State
  pub regs : List ℕ
  pub memories : Memories

abbrev pub answered : Replayed → List ℕ → List ℕ → List ℕ → Answered
answered r regs device local =
    record { outcome = r.outcome; steps = r.steps; state = r.state; regs = regs; memories = memories device local }

-- a run's answer: its state has zeros past its open blocks
abbrev pub ending : Ran → Answered
ending r =
    record {
      outcome = r.outcome;
      steps = r.steps;
      state = state_of r.end.wave r.end.preds;
      regs = r.end.regs;
      memories = r.end.memories;
    }

-- the run from a machine, with the settings' budget
abbrev pub run_from : Settings → List ℕ → Machine → Answered
run_from s code m = ending (run_of s code s.budget m)

-- the machine of a state that was handed in, with the buffers that were lent
abbrev pub state_machine : State → List ℕ → List ℕ → List ℕ → Machine
state_machine state regs device local = machine_of state.hot state.blocks regs device local
