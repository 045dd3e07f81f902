-- What a launch or a resume answers can be handed in again: its state fits. And a run of a + b steps is a run of a, and, where that
-- stopped for want of budget, a resume of b from what it answered.
use mathlib.Core.Path.{◌≡◌, refl, sym, ap, ◌∙◌, subst}
use mathlib.Core.Bool.{Bool, true, false, ◌||◌}
use mathlib.Core.Logic.{⊎_elim}
use mathlib.Core.List.{List}
use Prim.Native.Nat.{ℕ, zero, suc, ◌+◌, ◌*◌, ◌≤◌}
use native.Mathlib.Nat.{min-eq_left}
use native.Mathlib.Omega.{arith}
use borrow.Author.Tests.{eqb-true, eq-eqb, leb-true, le-leb}
use lib.Dec.{eqb, leb}
use lib.ListN.{length}
use Rattle.ground.proofs.Tests.{or_cases}
use Rattle.lanes.specs.Sets.{widest}
use Rattle.refusals.specs.declared.Refusal.{Refusal}
use Rattle.blocks.specs.Scan.{Checked}
use Rattle.std.specs.Prelude.{Ok, Err}
use Rattle.blocks.specs.Code.{code_of}
use Rattle.lanes.specs.Blocks.{nesting}
use Rattle.blocks.specs.Scan.{check_of}
use Rattle.wave.specs.declared.state.State.{State}
use Rattle.wave.specs.Wave.{Wave, state_of}
use Rattle.fits.specs.Fits.{WaveFits, Fits}
use Rattle.fits.specs.FitsTest.{fits_test}
use Rattle.wave.proofs.View.{wave_in_lem}
use Rattle.fits.proofs.Fitting.{fits_test_lem}
use Rattle.fits.proofs.Stays.{path_room, launch_fits, state_fits_lem}
use Rattle.compute.specs.Memory.{Memories}
use Rattle.stepping.specs.declared.settings.Settings.{Settings}
use Rattle.stepping.specs.declared.answers.Outcome.{Outcome}
use Rattle.stepping.specs.declared.answers.Outcome.TheVariants.{Ended, OutOfBudget}
use Rattle.stepping.specs.Machine.{Machine}
use Rattle.stepping.specs.Step.{launched_lanes, step_of}
use Rattle.stepping.specs.Run.{Ran, stop, later, unless, ended_of, step_at, onward, run_of}
use Rattle.stepping.specs.Answer.{Answered, ending, run_from, state_machine}
use Rattle.replay.specs.Replay.{most_registers, most_steps, most_words, settings_right, reading_of, then_test, refused_unless, setting_test, length_test, buffer_test, state_test, bounds_test, launch_test, resume_test, by_test, launch_machine, launch_of, resume_of}
use Rattle.runs.specs.Calls.{budgeted, resumed_with, added}
use Rattle.runs.proofs.Allowing.{among_width, right_allowed}
use Rattle.runs.proofs.Adding.{following, runs_add}
use Rattle.runs.proofs.Keeping.{run_keeps, run_long}

-- ---- what a test that was passed says
pub then_first : (v next : Checked) → then_test v next ≡ Ok tt → v ≡ Ok tt
then_first (Ok tt) next e = refl
then_first (Err r) next e = e

pub then_second : (v next : Checked) → then_test v next ≡ Ok tt → next ≡ Ok tt
then_second (Ok tt) next e = e
then_second (Err r) next e = absurd (let z : ◌≡◌ {A = ℕ} 0 1 = cc in omega arith)

pub unless_true : (ok : Bool) (r : Refusal) → refused_unless ok r ≡ Ok tt → ok ≡ true
unless_true true r e = refl
unless_true false r e = absurd (let z : ◌≡◌ {A = ℕ} 0 1 = cc in omega arith)

-- what the tests of a launch ask, the budget's apart
pub record Launchable (s : Settings) (code : List ℕ) : Type 0 where
  pub widths : (eqb s.width 8 || eqb s.width 16 || eqb s.width 32) ≡ true
  pub some_register : leb 1 s.registers ≡ true
  pub few_registers : leb s.registers most_registers ≡ true
  pub some_lane : leb 1 s.lanes ≡ true
  pub few_lanes : leb s.lanes s.width ≡ true
  pub short : leb (length code) most_words ≡ true
  pub checked : check_of (code_of code (reading_of s)) ≡ Ok tt

pub launchable : (s : Settings) (b : ℕ) (code regs : List ℕ) → launch_test (budgeted b s) code regs ≡ Ok tt → Launchable s code
launchable s b code regs e =
    let t1 = then_first (bounds_test (budgeted b s) code regs) (check_of (code_of code (reading_of s))) e in
    let rest : Checked = then_test (length_test code) (buffer_test s regs) in
    let right : settings_right (budgeted b s) ≡ true =
    unless_true (settings_right (budgeted b s)) _ (then_first (setting_test (budgeted b s)) rest t1) in
    let a = right_allowed (budgeted b s) right in
    record {
      widths = among_width s.width a.width;
      some_register = le-leb 1 s.registers a.registers.0;
      few_registers = le-leb s.registers most_registers a.registers.1;
      some_lane = le-leb 1 s.lanes a.lanes.0;
      few_lanes = le-leb s.lanes s.width a.lanes.1;
      short =
          unless_true (leb (length code) most_words) _
          (then_first (length_test code) (buffer_test s regs) (then_second (setting_test (budgeted b s)) rest t1));
      checked = then_second (bounds_test (budgeted b s) code regs) (check_of (code_of code (reading_of s))) e;
    }

pub right_length : (s : Settings) (code regs : List ℕ) → launch_test s code regs ≡ Ok tt → length regs ≡ s.width * s.registers
right_length s code regs e =
    let t1 = then_first (bounds_test s code regs) (check_of (code_of code (reading_of s))) e in
    let rest : Checked = then_test (length_test code) (buffer_test s regs) in
    eqb-true (length regs) (s.width * s.registers)
    (unless_true (eqb (length regs) (s.width * s.registers)) _
    (then_second (length_test code) (buffer_test s regs) (then_second (setting_test s) rest t1)))

-- what the tests of a resume ask: those of a launch, and that the state fits
pub record Resumable (s : Settings) (state : State) (code regs : List ℕ) : Type 0 where
  pub launches : launch_test s code regs ≡ Ok tt
  pub fits : fits_test code (reading_of s) s.lanes state.hot state.blocks ≡ true

pub resumable : (s : Settings) (state : State) (code regs : List ℕ) → resume_test s state code regs ≡ Ok tt → Resumable s state code regs
resumable s state code regs e =
    record {
      launches = then_first (launch_test s code regs) (state_test s state code) e;
      fits =
          unless_true (fits_test code (reading_of s) s.lanes state.hot state.blocks) _
          (then_second (launch_test s code regs) (state_test s state code) e);
    }

resumable_passes : (s : Settings) (state : State) (code regs : List ℕ) → Resumable s state code regs → resume_test s state code regs ≡ Ok tt
resumable_passes s state code regs r = rw (r.launches, r.fits)

module _ (s : Settings) (code : List ℕ) (l : Launchable s code) where
  -- the launched lanes are no more than the widest wave has
  pub lanes_most : s.lanes ≤ widest
  lanes_most =
      let w : s.lanes ≤ s.width = leb-true s.lanes s.width l.few_lanes in
      ⊎_elim
      (λ e.
      ⊎_elim (λ (k : eqb s.width 8 ≡ true). let z : s.width ≡ 8 = eqb-true s.width 8 k in omega arith)
      (λ (k : eqb s.width 16 ≡ true). let z : s.width ≡ 16 = eqb-true s.width 16 k in omega arith)
      (or_cases (eqb s.width 8) (eqb s.width 16) e))
      (λ (k : eqb s.width 32 ≡ true). let z : s.width ≡ 32 = eqb-true s.width 32 k in omega arith)
      (or_cases (eqb s.width 8 || eqb s.width 16) (eqb s.width 32) l.widths)

  -- they pass the test with any budget that is allowed and any buffer of the right length
  pub passes : (b : ℕ) (regs : List ℕ) → b ≤ most_steps → length regs ≡ s.width * s.registers
      → launch_test (budgeted b s) code regs ≡ Ok tt
  passes b regs h e =
      rw (
        l.widths,
        l.some_register,
        l.few_registers,
        l.some_lane,
        l.few_lanes,
        le-leb b most_steps h,
        l.short,
        eq-eqb (length regs) (s.width * s.registers) e,
        l.checked,
      )

  -- ---- a machine in order: its wave fits, and it has its registers
  pub record InOrder (m : Machine) : Type 0 where
    pub fits : WaveFits code (reading_of s) s.lanes m.wave m.preds
    pub long : length m.regs ≡ s.width * s.registers

  pub launch_in_order : (regs device local : List ℕ) → length regs ≡ s.width * s.registers → InOrder (launch_machine s regs device local)
  launch_in_order regs device local e =
      let z : launched_lanes s ≡ s.lanes = min-eq_left lanes_most in
      record { fits = rw z (launch_fits code (reading_of s) s.lanes); long = e }

  pub given_in_order : (state : State) (regs device local : List ℕ) → length regs ≡ s.width * s.registers
      → fits_test code (reading_of s) s.lanes state.hot state.blocks ≡ true → InOrder (state_machine state regs device local)
  given_in_order state regs device local e t =
      record { fits = ((fits_test_lem code (reading_of s) s.lanes state.hot state.blocks).0 t).wave; long = e }

  -- the state that holds it fits, and goes on with any budget that is allowed
  held_fits : (m : Machine) → InOrder m
      → Fits code (reading_of s) s.lanes (state_of m.wave m.preds).hot (state_of m.wave m.preds).blocks
  held_fits m o = state_fits_lem code (reading_of s) s.lanes m.wave m.preds lanes_most o.fits

  pub in_order_resumes : (c : ℕ) (m : Machine) → InOrder m → c ≤ most_steps
      → resume_test (budgeted c s) (state_of m.wave m.preds) code m.regs ≡ Ok tt
  in_order_resumes c m o h =
      let x : State = state_of m.wave m.preds in
      resumable_passes (budgeted c s) x code m.regs (record {
        launches = passes c m.regs h o.long;
        fits = (fits_test_lem code (reading_of s) s.lanes x.hot x.blocks).1 (held_fits m o);
      })

  -- and stays so
  run_in_order : (b : ℕ) (m : Machine) → InOrder m → InOrder (run_of s code b m).end
  run_in_order b m o =
      record {
        fits = run_keeps code (reading_of s) l.checked (leb-true (length code) most_words l.short) s s.lanes b m o.fits;
        long = run_long s code b m ∙ o.long;
      }

  -- THE STATE that a run answers fits
  pub returned_fits : (b : ℕ) (m : Machine) → InOrder m
      → Fits code (reading_of s) s.lanes (ending (run_of s code b m)).state.hot (ending (run_of s code b m)).state.blocks
  returned_fits b m o = held_fits (run_of s code b m).end (run_in_order b m o)

  -- so that it goes on, with any budget that is allowed
  goes_on_from : (b c : ℕ) (m : Machine) → InOrder m → c ≤ most_steps
      → resume_test (budgeted c s) (ending (run_of s code b m)).state code (ending (run_of s code b m)).regs ≡ Ok tt
  goes_on_from b c m o h = in_order_resumes c (run_of s code b m).end (run_in_order b m o) h

-- ---- the answers, once the tests are passed
module _ (s : Settings) (code regs device local : List ℕ) where
  pub launched : launch_test s code regs ≡ Ok tt → launch_of s code regs device local ≡ run_from s code (launch_machine s regs device local)
  unfolding launch_of
  launched e = rw e

  pub resumed : (state : State) → resume_test s state code regs ≡ Ok tt
      → resume_of s state code regs device local ≡ run_from s code (state_machine state regs device local)
  unfolding resume_of
  resumed state e = rw e

  not_refused : (v : Checked) (f : Unit {0} → Answered) (state : State) (y : Memories)
      → (by_test v f state regs y).outcome ≡ OutOfBudget → v ≡ Ok tt
  not_refused (Ok tt) f state y e = refl
  not_refused (Err r) f state y e = absurd (let z : ◌≡◌ {A = ℕ} 0 1 = cc in omega arith)

  launch_passed : (launch_of s code regs device local).outcome ≡ OutOfBudget → launch_test s code regs ≡ Ok tt
  unfolding launch_of
  launch_passed e = not_refused (launch_test s code regs) _ _ _ e

  resume_passed : (state : State) → (resume_of s state code regs device local).outcome ≡ OutOfBudget → resume_test s state code regs ≡ Ok tt
  unfolding resume_of
  resume_passed state e = not_refused (resume_test s state code regs) _ _ _ e

-- ---- WHAT A CALL ANSWERS can be handed in again: it is not refused
module _ (s : Settings) (code regs device local : List ℕ) (c : ℕ) (most : c ≤ most_steps) where
  abbrev Resumes : Answered → Type 0
  Resumes x = resume_test (budgeted c s) x.state code x.regs ≡ Ok tt

  pub launch_returns : launch_test s code regs ≡ Ok tt → Resumes (launch_of s code regs device local)
  launch_returns e =
      let l = launchable s s.budget code regs e in
      let o = launch_in_order s code l regs device local (right_length s code regs e) in
      subst Resumes (sym (launched s code regs device local e))
      (goes_on_from s code l s.budget c (launch_machine s regs device local) o most)

  pub resume_returns : (state : State) → resume_test s state code regs ≡ Ok tt → Resumes (resume_of s state code regs device local)
  resume_returns state e =
      let q = resumable s state code regs e in
      let l = launchable s s.budget code regs q.launches in
      let o = given_in_order s code l state regs device local (right_length s code regs q.launches) q.fits in
      subst Resumes (sym (resumed s code regs device local state e))
      (goes_on_from s code l s.budget c (state_machine state regs device local) o most)

-- ---- a run does not look at the settings' budget
one_budgeted : (a b : ℕ) (s : Settings) (code : List ℕ) (k : ℕ) (m : Machine)
    → run_of (budgeted a s) code k (step_at s code m).end ≡ run_of (budgeted b s) code k (step_at s code m).end
    → run_of (budgeted a s) code (suc k) m ≡ run_of (budgeted b s) code (suc k) m
unfolding run_of step_of
one_budgeted a b s code k m e =
    ap (λ (r : Ran). unless (ended_of s code m) (stop Ended m) (λ (u : Unit {0}). onward (step_at s code m) m (λ (v : Unit {0}). r))) e

pub run_budgeted : (a b : ℕ) (s : Settings) (code : List ℕ) (k : ℕ) (m : Machine)
    → run_of (budgeted a s) code k m ≡ run_of (budgeted b s) code k m
unfolding run_of
run_budgeted a b s code zero m = refl
run_budgeted a b s code (suc k) m = one_budgeted a b s code k m (run_budgeted a b s code k (step_at s code m).end)

-- the machine that a state is made from is the one that it holds
pub state_machine_lem : (m : Machine) → length m.wave.path ≤ nesting
    → state_machine (state_of m.wave m.preds) m.regs m.memories.device m.memories.local ≡ m
state_machine_lem m h =
    ap (λ (w : Wave). record { wave = w; preds = m.preds; regs = m.regs; memories = m.memories }) (wave_in_lem m.wave m.preds h)

-- ---- STEPS ADD
module _ (s : Settings) (code : List ℕ) (l : Launchable s code) (a b : ℕ) (most : a + b ≤ most_steps) (m : Machine)
    (o : InOrder s code l m) where
  abbrev earlier : Ran
  earlier = run_of (budgeted a s) code a m

  further : resumed_with b s code (ending earlier) ≡ ending (run_of (budgeted b s) code b earlier.end)
  further =
      let e = ap (λ (r : Ran). ending r) (run_budgeted a s.budget s code a m) in
      let r : Machine = (run_of s code a m).end in
      ap (resumed_with b s code) e
      ∙ resumed (budgeted b s) code r.regs r.memories.device r.memories.local (state_of r.wave r.preds)
      (goes_on_from s code l a b m o (omega arith))
      ∙ ap (λ (k : Machine). ending (run_of (budgeted b s) code b k))
      (state_machine_lem r (path_room code (reading_of s) s.lanes r.wave r.preds (run_in_order s code l a m o).fits))
      ∙ ap (λ (r : Ran). ending (run_of (budgeted b s) code b r.end)) (sym (run_budgeted a s.budget s code a m))

  goes : earlier.outcome ≡ OutOfBudget
      → run_of (budgeted (a + b) s) code (a + b) m ≡ later earlier.steps (run_of (budgeted b s) code b earlier.end)
  goes e =
      run_budgeted (a + b) a s code (a + b) m ∙ runs_add (budgeted a s) code b a m
      ∙ ap (λ (x : Outcome). following x earlier (later earlier.steps (run_of (budgeted a s) code b earlier.end))) e
      ∙ ap (later earlier.steps) (run_budgeted a b s code b earlier.end)

  run_adds : earlier.outcome ≡ OutOfBudget
      → ending (run_of (budgeted (a + b) s) code (a + b) m) ≡ added earlier.steps (resumed_with b s code (ending earlier))
  run_adds e = ap ending (goes e) ∙ ap (added earlier.steps) (sym further)

module _ (s : Settings) (code regs device local : List ℕ) (a b : ℕ) (most : a + b ≤ most_steps) where
  pub launch_adds : (launch_of (budgeted a s) code regs device local).outcome ≡ OutOfBudget
      → launch_of (budgeted (a + b) s) code regs device local
      ≡ added (launch_of (budgeted a s) code regs device local).steps (resumed_with b s code (launch_of (budgeted a s) code regs device local))
  launch_adds e =
      let t = launch_passed (budgeted a s) code regs device local e in
      let l = launchable s a code regs t in
      let long = right_length (budgeted a s) code regs t in
      let o = launch_in_order s code l regs device local long in
      let x = launched (budgeted a s) code regs device local t in
      launched (budgeted (a + b) s) code regs device local (passes s code l (a + b) regs most long)
      ∙ run_adds s code l a b most (launch_machine s regs device local) o (ap (λ (y : Answered). y.outcome) (sym x) ∙ e)
      ∙ ap (λ (y : Answered). added y.steps (resumed_with b s code y)) (sym x)

  pub resume_adds : (state : State) → (resume_of (budgeted a s) state code regs device local).outcome ≡ OutOfBudget
      → resume_of (budgeted (a + b) s) state code regs device local
      ≡ added (resume_of (budgeted a s) state code regs device local).steps
      (resumed_with b s code (resume_of (budgeted a s) state code regs device local))
  resume_adds state e =
      let t = resume_passed (budgeted a s) code regs device local state e in
      let q = resumable (budgeted a s) state code regs t in
      let l = launchable s a code regs q.launches in
      let long = right_length (budgeted a s) code regs q.launches in
      let o = given_in_order s code l state regs device local long q.fits in
      let x = resumed (budgeted a s) code regs device local state t in
      resumed (budgeted (a + b) s) code regs device local state
      (resumable_passes (budgeted (a + b) s) state code regs (record { launches = passes s code l (a + b) regs most long; fits = q.fits }))
      ∙ run_adds s code l a b most (state_machine state regs device local) o (ap (λ (y : Answered). y.outcome) (sym x) ∙ e)
      ∙ ap (λ (y : Answered). added y.steps (resumed_with b s code y)) (sym x)
