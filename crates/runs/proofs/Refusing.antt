-- A call is refused exactly where its tests refuse, with their refusal: a run answers no refusal of its own, by induction along it.
use mathlib.Core.Path.{◌≡◌, refl, ap}
use mathlib.Core.Logic.{◌↔◌}
use mathlib.Core.List.{List}
use Prim.Native.Nat.{ℕ}
use native.Mathlib.Omega.{arith}
use lib.ListN.{replicate}
use Rattle.std.specs.Prelude.{Ok, Err}
use Rattle.refusals.specs.declared.Refusal.{Refusal}
use Rattle.blocks.specs.Scan.{Checked}
use Rattle.lanes.specs.Blocks.{nesting}
use Rattle.lanes.specs.Sets.{first}
use Rattle.wave.specs.Layout.{no_block}
use Rattle.wave.specs.declared.state.State.{State}
use Rattle.compute.specs.Memory.{Memories, memories}
use Rattle.stepping.specs.declared.settings.Settings.{Settings}
use Rattle.stepping.specs.declared.answers.Outcome.{Outcome}
use Rattle.stepping.specs.declared.answers.Outcome.TheVariants.{Refused}
use Rattle.stepping.specs.Machine.{Machine}
use Rattle.stepping.specs.Run.{Ran, run_of}
use Rattle.stepping.specs.Answer.{Answered, state_machine}
use Rattle.replay.specs.Replay.{launch_test, resume_test, refused_call, by_test, launch_machine, not_launched, launch_of, resume_of}
use Rattle.stepping.proofs.Runs.{run_induction}

-- two cases of an enum are not equal
other_outcome : ◌≡◌ {A = ℕ} 0 1 → ⊥
other_outcome e = omega arith

-- an answer of no steps
abbrev refused_with : Outcome → State → List ℕ → Memories → Answered
refused_with o state regs y = record { outcome = o; steps = 0; state = state; regs = regs; memories = y }

-- ---- a run answers no refusal
module _ (r : Refusal) where
  abbrev Unrefused : Ran → Type 0
  Unrefused x = x.outcome ≡ Refused r → ⊥

  pub run_unrefused : (s : Settings) (code : List ℕ) (b : ℕ) (m : Machine) → Unrefused (run_of s code b m)
  run_unrefused s code =
      run_induction s code (λ b m x. Unrefused x) (λ b m e z. other_outcome cc) (λ m e z. other_outcome cc) (λ b m e c z. other_outcome cc)
      (λ b m x e c h. h)

  by_test_lem : (v : Checked) (f : Unit {0} → Answered) (state : State) (regs : List ℕ) (y : Memories)
      → ((f tt).outcome ≡ Refused r → ⊥)
      → ((by_test v f state regs y).outcome ≡ Refused r) ↔ (v ≡ Err r)
  by_test_lem (Ok tt) f state regs y never = (λ e. absurd (never e), λ e. absurd (other_outcome cc))
  by_test_lem (Err q) f state regs y never = (λ e. cc, λ e. cc)

  -- a refusal answers zero steps and the state handed in, and leaves the buffers as lent
  by_test_keeps : (v : Checked) (f : Unit {0} → Answered) (state : State) (regs : List ℕ) (y : Memories)
      → ((f tt).outcome ≡ Refused r → ⊥)
      → (by_test v f state regs y).outcome ≡ Refused r → by_test v f state regs y ≡ refused_call r state regs y
  by_test_keeps (Ok tt) f state regs y never e = absurd (never e)
  by_test_keeps (Err q) f state regs y never e = ap (λ (o : Outcome). refused_with o state regs y) e

  -- THEOREM: a call is refused exactly where its tests refuse, with that refusal
  module _ (s : Settings) (code regs device local : List ℕ) where
    pub launch_refused_if :
        ((launch_of s code regs device local).outcome ≡ Refused r) ↔ (launch_test s code regs ≡ Err r)
    unfolding launch_of
    launch_refused_if =
        by_test_lem (launch_test s code regs) _ _ _ _ (run_unrefused s code s.budget (launch_machine s regs device local))

    pub resume_refused_if : (state : State)
        → ((resume_of s state code regs device local).outcome ≡ Refused r)
        ↔ (resume_test s state code regs ≡ Err r)
    unfolding resume_of
    resume_refused_if state =
        by_test_lem (resume_test s state code regs) _ _ _ _ (run_unrefused s code s.budget (state_machine state regs device local))

  -- THEOREM: a call that is refused reports zero steps, returns the state handed in and changes nothing lent; a launch returns place 0, empty
  -- sets and no block
  module _ (s : Settings) (code regs device local : List ℕ) where
    pub launch_refused_keeps : (launch_of s code regs device local).outcome ≡ Refused r
        → launch_of s code regs device local ≡ refused_call r not_launched regs (memories device local)
    unfolding launch_of
    launch_refused_keeps =
        by_test_keeps (launch_test s code regs) _ _ _ _ (run_unrefused s code s.budget (launch_machine s regs device local))

    pub resume_refused_keeps : (state : State) → (resume_of s state code regs device local).outcome ≡ Refused r
        → resume_of s state code regs device local ≡ refused_call r state regs (memories device local)
    unfolding resume_of
    resume_refused_keeps state =
        by_test_keeps (resume_test s state code regs) _ _ _ _ (run_unrefused s code s.budget (state_machine state regs device local))

-- what a refused launch returns, number by number
pub not_launched_lem : not_launched ≡ record {
  hot = record { place = 0; active = 0; halted = 0; p1 = 0; p2 = 0; p3 = 0; depth = 0 };
  blocks = replicate nesting no_block;
}
unfolding first
not_launched_lem = refl
