-- How the ways into a replay come to what the definitions say: by the verdict of the tests, a refusal or the run.
use mathlib.Core.Path.{◌≡◌, ◌∙◌}
use mathlib.Core.List.{List}
use Prim.Native.Nat.{ℕ}
use Rattle.std.specs.Prelude.{Ok, Err}
use Rattle.refusals.specs.declared.Refusal.{Refusal}
use Rattle.blocks.specs.Scan.{Checked}
use Rattle.wave.specs.declared.state.State.{State}
use Rattle.wave.specs.Wave.{state_of, launch, clear}
use Rattle.compute.specs.Memory.{Memories, memories}
use Rattle.stepping.specs.declared.settings.Settings.{Settings}
use Rattle.stepping.specs.declared.answers.Replayed.{Replayed}
use Rattle.stepping.specs.Step.{launched_lanes}
use Rattle.stepping.specs.Answer.{Answered, answered, state_machine, run_from}
use Rattle.replay.specs.Replay.{refused_as, by_test, then_test, filled, launch_machine}

-- ---- by the verdict v of a test
module _ {v test : Checked} (says : v ≡ test) where
  -- the tests, one after the other
  pub stops : (next : Checked) {r : Refusal} → v ≡ Err r → Err r ≡ then_test test next
  stops next refuses = rw (← says) (rw refuses)

  pub goes_on : (next : Checked) {x : Checked} → v ≡ Ok tt → x ≡ next → x ≡ then_test test next
  goes_on next fine e = rw (← says) (rw fine e)

  -- the answer: a refusal, or the run
  pub refused_by :
      (run : Unit {0} → Answered) {refusal : Refusal} {r : Replayed} {state : State} {regs device local : List ℕ} →
      v ≡ Err refusal → r ≡ refused_as refusal state →
      answered r regs device local ≡ by_test test run state regs (memories device local)
  refused_by run refuses e = rw (← says) (rw (refuses, e))

  pub run_by :
      (run : Unit {0} → Answered) (state : State) (regs : List ℕ) (y : Memories) {x : Answered} → v ≡ Ok tt → x ≡ run tt →
      x ≡ by_test test run state regs y
  run_by run state regs y fine e = rw (← says) (rw fine e)

-- the run from a launched state, local memory filled, is that of a launch
pub launched_run :
    (s : Settings) (code regs device local : List ℕ) {full : List ℕ} {state : State} {x : Answered} → full ≡ filled local →
    state ≡ state_of (launch (launched_lanes s)) clear → x ≡ run_from s code (state_machine state regs device full) →
    x ≡ run_from s code (launch_machine s regs device local)
launched_run s code regs device local fills is e = e ∙ rw (fills, is)
