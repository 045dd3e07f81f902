-- The steps of a run, said of the run itself: step k is the instruction that a run of budget k stands before. By induction along the run.
use mathlib.Core.Path.{◌≡◌, refl, sym, ap, ◌∙◌}
use mathlib.Core.Logic.{⊎_elim}
use mathlib.Core.List.{List, [], ◌∷◌}
use Prim.Native.Nat.{ℕ, zero, suc, ◌+◌, ◌<◌, ◌≤◌}
use native.Mathlib.Omega.{arith}
use Rattle.ground.proofs.Tests.{true_or_false}
use Rattle.blocks.specs.Scan.{Checked}
use Rattle.std.specs.Prelude.{Ok}
use Rattle.wave.specs.declared.state.State.{State}
use Rattle.faulting.specs.Kinds.{clear}
use Rattle.stepping.specs.declared.settings.Settings.{Settings}
use Rattle.stepping.specs.Machine.{Machine}
use Rattle.stepping.specs.Run.{Ran, ended_of, step_at, run_of}
use Rattle.stepping.specs.Answer.{Answered, run_from, state_machine}
use Rattle.replay.specs.Replay.{launch_test, resume_test, launch_of, launch_machine, resume_of}
use Rattle.runs.specs.Calls.{budgeted}
use Rattle.stepping.proofs.Runs.{at_ended, at_budget, at_fault, at_clear, steps_most}
use Rattle.runs.proofs.Returns.{launchable, passes, right_length, resumable, launched, resumed, run_budgeted}
use Rattle.runs.proofs.Breaking.{launch_passes}
use Rattle.demands.specs.Steps.{Step, taken, steps_of}
use Rattle.demands.specs.Seen.{stood_before, newest_first, with_budget}
use Rattle.demands.specs.History.{Buffers, Point, steps_if, called, Start, by_launch, from_state, Calls, test_at, first_at, History}
use Rattle.demands.proofs.Following.{steps_ended, steps_none, steps_fault, steps_clear}

-- ---- steps in a row

newest_same : (n : ℕ) (f g : ℕ → Step) (es : List Step) → ((k : ℕ) → k < n → f k ≡ g k) → newest_first n f es ≡ newest_first n g es
newest_same zero f g es h = refl
newest_same (suc n) f g es h = ap (λ (e : Step). e ∷ newest_first n f es) (h n (omega arith)) ∙ ap (λ (l : List Step). g n ∷ l) (newest_same n f g es (λ k l. h k (omega arith)))

-- the oldest of them apart
newest_oldest : (n : ℕ) (f : ℕ → Step) (es : List Step) → newest_first n (λ k. f (suc k)) (f 0 ∷ es) ≡ newest_first (suc n) f es
newest_oldest zero f es = refl
newest_oldest (suc n) f es = ap (λ (l : List Step). f (suc n) ∷ l) (newest_oldest n f es)

-- ---- of a run

module _ (s : Settings) (code : List ℕ) where
  abbrev seen : Machine → ℕ → Step
  seen m k = taken code (run_of s code k m).end

  -- no step at all
  none_seen : (b : ℕ) (m : Machine) (es : List Step) {r : Ran} → steps_of s code b m es ≡ es → run_of s code b m ≡ r → r.steps ≡ 0
      → steps_of s code b m es ≡ newest_first (run_of s code b m).steps (seen m) es
  none_seen b m es d e z = d ∙ ap (λ (n : ℕ). newest_first n (seen m) es) (sym z ∙ ap (λ (r : Ran). r.steps) (sym e))

  -- THEOREM
  pub steps_seen : (b : ℕ) (m : Machine) (es : List Step) → steps_of s code b m es ≡ newest_first (run_of s code b m).steps (seen m) es
  steps_seen zero m es =
      ⊎_elim (λ e. none_seen 0 m es (steps_none s code m es) (at_ended s code 0 m e) refl)
      (λ e. none_seen 0 m es (steps_none s code m es) (at_budget s code m e) refl) (true_or_false (ended_of s code m))
  steps_seen (suc b) m es =
      ⊎_elim
      (λ e. none_seen (suc b) m es (steps_ended s code m es (suc b) e) (at_ended s code (suc b) m e) refl)
      (λ e.
      ⊎_elim
      (λ c.
      let v : Machine = (step_at s code m).end in
      let one : (run_of s code (suc b) m).steps ≡ 1 + (run_of s code b v).steps = ap (λ (r : Ran). r.steps) (at_clear s code b m e c) in
      let n : (run_of s code (suc b) m).steps ≡ suc (run_of s code b v).steps = omega (arith, one) in
      let here : seen m 0 ≡ taken code m = ap (λ (r : Ran). taken code r.end) (at_budget s code m e) in
      steps_clear s code m es b e c
      ∙ steps_seen b v (taken code m ∷ es)
      ∙ newest_same (run_of s code b v).steps (seen v) (λ k. seen m (suc k)) (taken code m ∷ es)
      (λ k l. sym (ap (λ (r : Ran). taken code r.end) (at_clear s code k m e c)))
      ∙ ap (λ (x : Step). newest_first (run_of s code b v).steps (λ k. seen m (suc k)) (x ∷ es)) (sym here)
      ∙ newest_oldest (run_of s code b v).steps (seen m) es
      ∙ ap (λ (k : ℕ). newest_first k (seen m) es) (sym n))
      (λ c. none_seen (suc b) m es (steps_fault s code m es b e c) (at_fault s code b m e c) refl)
      (true_or_false (clear (step_at s code m).faults)))
      (true_or_false (ended_of s code m))

-- ---- of a call

-- the state that a run of budget k answers, whatever the budget of the settings, holds the machine that it stands before
stood : (s : Settings) (code : List ℕ) (k : ℕ) (m : Machine)
    → taken code (run_of s code k m).end ≡ stood_before code (run_from (budgeted k s) code m).state
stood s code k m = ap (λ (r : Ran). taken code r.end) (run_budgeted s.budget k s code k m)

module _ (s : Settings) (code : List ℕ) (m : Machine) (x : Answered) (f : ℕ → Answered) where
  -- the steps of a call that runs from m, where the same call of a shorter budget runs from there too
  call_seen : (es : List Step) → x ≡ run_from s code m → ((k : ℕ) → k ≤ s.budget → f k ≡ run_from (budgeted k s) code m)
      → steps_of s code s.budget m es ≡ newest_first x.steps (λ k. stood_before code (f k).state) es
  call_seen es e g =
      let most = steps_most s code s.budget m in
      steps_seen s code s.budget m es
      ∙ newest_same (run_of s code s.budget m).steps (seen s code m) (λ k. stood_before code (f k).state) es
      (λ k l. stood s code k m ∙ ap (λ (a : Answered). stood_before code a.state) (sym (g k (omega (arith, most, l)))))
      ∙ ap (λ (a : Answered). newest_first a.steps (λ k. stood_before code (f k).state) es) (sym e)

module _ (s : Settings) (code regs device local : List ℕ) where
  launch_shorter : launch_test s code regs ≡ Ok tt → (k : ℕ) → k ≤ s.budget → launch_test (budgeted k s) code regs ≡ Ok tt
  launch_shorter e k h =
      passes s code (launchable s s.budget code regs e) k regs (omega (arith, ((launch_passes s code regs).0 e).0.allowed.budget, h))
      (right_length s code regs e)

  resume_shorter : (state : State) → resume_test s state code regs ≡ Ok tt → (k : ℕ) → k ≤ s.budget → resume_test (budgeted k s) state code regs ≡ Ok tt
  resume_shorter state e k h =
      let q = resumable s state code regs e in
      rw (launch_shorter q.launches k h, q.fits)

  launch_seen : launch_test s code regs ≡ Ok tt
      → steps_of s code s.budget (launch_machine s regs device local) []
      ≡ newest_first (launch_of s code regs device local).steps (λ k. stood_before code (launch_of (budgeted k s) code regs device local).state) []
  launch_seen e =
      call_seen s code (launch_machine s regs device local) (launch_of s code regs device local) (λ k. launch_of (budgeted k s) code regs device local)
      [] (launched s code regs device local e)
      (λ k h. launched (budgeted k s) code regs device local (launch_shorter e k h))

  resume_seen : (state : State) (es : List Step) → resume_test s state code regs ≡ Ok tt
      → steps_of s code s.budget (state_machine state regs device local) es
      ≡ newest_first (resume_of s state code regs device local).steps
      (λ k. stood_before code (resume_of (budgeted k s) state code regs device local).state) es
  resume_seen state es e =
      call_seen s code (state_machine state regs device local) (resume_of s state code regs device local)
      (λ k. resume_of (budgeted k s) state code regs device local) es (resumed s code regs device local state e)
      (λ k h. resumed (budgeted k s) code regs device local state (resume_shorter state e k h))

-- THEOREM: step k of a history's first call is what the same call with a budget of k stands before ...
pub first_seen : (c : Calls) → History c
    → (first_at c.start c).steps
    ≡ newest_first (first_at c.start c).answer.steps (λ k. stood_before c.code (first_at c.start (with_budget k c)).answer.state) []
first_seen c h = by c.start h
  where
    by : (start : Start) → test_at start c ≡ Ok tt
        → (first_at start c).steps
        ≡ newest_first (first_at start c).answer.steps (λ k. stood_before c.code (first_at start (with_budget k c)).answer.state) []
    by by_launch e = launch_seen c.settings c.code c.regs c.device c.local e
    by (from_state state) e = resume_seen c.settings c.code c.regs c.device c.local state [] e

-- ... and so of a later call that isn't refused; one that is makes no step
pub later_seen : (s : Settings) (code : List ℕ) (b : ℕ) (y : Buffers) (p : Point) → resume_test (budgeted b s) p.answer.state code y.regs ≡ Ok tt
    → (called s code b y p).steps
    ≡ newest_first (called s code b y p).answer.steps (λ k. stood_before code (called s code k y p).answer.state) p.steps
later_seen s code b y p e =
    ap
    (λ (v : Checked).
    steps_if v (steps_of (budgeted b s) code b (state_machine p.answer.state y.regs y.device y.local) p.steps) p.steps)
    e
    ∙ resume_seen (budgeted b s) code y.regs y.device y.local p.answer.state p.steps e
