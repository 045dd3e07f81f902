-- A run in slices is the run: a run of a + b steps is one of a, gone on from with b where that was stopped.
use mathlib.Core.Path.{◌≡◌, refl, sym, ap, ◌∙◌}
use mathlib.Core.Bool.{Bool, true, false}
use mathlib.Core.List.{List}
use mathlib.Core.Logic.{⊎_elim}
use Prim.Native.Nat.{ℕ, zero, suc, ◌+◌, ◌-◌, ◌≤◌, ◌<◌, min}
use native.Mathlib.Nat.{add_assoc, add-zero}
use native.Mathlib.Omega.{arith}
use borrow.Author.Tests.{le-leb}
use lib.Dec.{leb}
use Rattle.std.specs.Prelude.{Ok, Err}
use Rattle.ground.proofs.Bools.{never}
use Rattle.ground.proofs.Tests.{true_or_false}
use Rattle.blocks.specs.Scan.{Checked}
use Rattle.wave.specs.declared.state.State.{State}
use Rattle.compute.specs.Memory.{Memories, memories}
use Rattle.stepping.specs.declared.settings.Settings.{Settings}
use Rattle.stepping.specs.declared.answers.Outcome.{Outcome}
use Rattle.stepping.specs.Machine.{Machine}
use Rattle.stepping.specs.Run.{Ran, run_of}
use Rattle.stepping.specs.Answer.{Answered, ending, run_from, state_machine}
use Rattle.replay.specs.Replay.{most_steps, launch_test, resume_test, by_test, not_launched, launch_machine, launch_of, resume_of}
use Rattle.runs.specs.Calls.{budgeted, resumed_with, added}
use Rattle.stepping.proofs.Runs.{steps_most}
use Rattle.runs.proofs.Adding.{following, runs_add}
use Rattle.runs.proofs.Returns.{run_budgeted, launch_adds, resume_adds}
use Rattle.runs.specs.Starting.{start_of, stopped, gone_on, finished}

-- ---- a run makes no more steps than its budget
module _ (s : Settings) (code : List ℕ) where
  tested_most : (v : Checked) (b : ℕ) (m : Machine) (state : State) (regs : List ℕ) (y : Memories)
      → (by_test v (λ (u : Unit {0}). ending (run_of s code b m)) state regs y).steps ≤ b
  tested_most (Ok tt) b m state regs y = steps_most s code b m
  tested_most (Err r) b m state regs y = omega arith

  resume_most : (state : State) (regs device local : List ℕ) → (resume_of s state code regs device local).steps ≤ s.budget
  unfolding resume_of
  resume_most state regs device local =
      tested_most (resume_test s state code regs) s.budget (state_machine state regs device local) state regs _

  start_most : (l : Bool) (state : State) (regs device local : List ℕ) → (start_of l s state code regs device local).steps ≤ s.budget
  unfolding start_of launch_of
  start_most true state regs device local = tested_most (launch_test s code regs) s.budget (launch_machine s regs device local) _ regs _
  start_most false state regs device local = resume_most state regs device local

-- ---- a run that wasn't stopped is the run with any larger budget
settled_by : (o : Outcome) (r x : Ran) → stopped o ≡ false → following o r x ≡ r
unfolding stopped
settled_by Outcome.OutOfBudget r x h = never (sym h)
settled_by Outcome.Ended r x h = refl
settled_by (Outcome.Fault f) r x h = refl
settled_by (Outcome.Refused q) r x h = refl

stops : (o : Outcome) → stopped o ≡ true → o ≡ Outcome.OutOfBudget
unfolding stopped
stops Outcome.OutOfBudget h = refl
stops Outcome.Ended h = never h
stops (Outcome.Fault f) h = never h
stops (Outcome.Refused r) h = never h

-- ---- a + b steps are a, and then b
module _ (s : Settings) (code : List ℕ) (a b : ℕ) (most : a + b ≤ most_steps) where
  run_settled : (m : Machine) → stopped (run_of (budgeted a s) code a m).outcome ≡ false
      → run_of (budgeted (a + b) s) code (a + b) m ≡ run_of (budgeted a s) code a m
  run_settled m h =
      run_budgeted (a + b) a s code (a + b) m ∙ runs_add (budgeted a s) code b a m
      ∙ settled_by (run_of (budgeted a s) code a m).outcome (run_of (budgeted a s) code a m) _ h

  -- the tests don't tell two allowed budgets apart
  allowed : leb (a + b) most_steps ≡ leb a most_steps
  allowed = le-leb (a + b) most_steps most ∙ sym (le-leb a most_steps (omega arith))

  launch_tests : (regs : List ℕ) → launch_test (budgeted (a + b) s) code regs ≡ launch_test (budgeted a s) code regs
  launch_tests regs = rw allowed

  resume_tests : (state : State) (regs : List ℕ) → resume_test (budgeted (a + b) s) state code regs ≡ resume_test (budgeted a s) state code regs
  resume_tests state regs = rw allowed

  -- a call with a budget of k, by its tests
  abbrev tested : ℕ → Checked → Machine → State → List ℕ → Memories → Answered
  tested k v m state regs y = by_test v (λ (u : Unit {0}). run_from (budgeted k s) code m) state regs y

  -- a call that wasn't stopped
  tested_settled : (v w : Checked) → v ≡ w → (m : Machine) (state : State) (regs : List ℕ) (y : Memories)
      → stopped (tested a w m state regs y).outcome ≡ false → tested (a + b) v m state regs y ≡ tested a w m state regs y
  tested_settled v (Ok tt) e m state regs y h = rw e (ap ending (run_settled m h))
  tested_settled v (Err r) e m state regs y h = rw e

module _ (s : Settings) (code : List ℕ) (state : State) (regs device local : List ℕ) where
  -- what is answered with a budget of k
  abbrev started : Bool → ℕ → Answered
  started l k = start_of l (budgeted k s) state code regs device local

  module _ (a b : ℕ) (most : a + b ≤ most_steps) where
    start_settled : (l : Bool) → stopped (started l a).outcome ≡ false → started l (a + b) ≡ started l a
    unfolding start_of launch_of resume_of
    start_settled true h =
        tested_settled s code a b most _ _ (launch_tests s code a b most regs)
        (launch_machine s regs device local) not_launched regs (memories device local) h
    start_settled false h =
        tested_settled s code a b most _ _ (resume_tests s code a b most state regs)
        (state_machine state regs device local) state regs (memories device local) h

    -- a call that was
    start_adds : (l : Bool) → (started l a).outcome ≡ Outcome.OutOfBudget
        → started l (a + b) ≡ added (started l a).steps (resumed_with b s code (started l a))
    unfolding start_of
    start_adds true e = launch_adds s code regs device local a b most e
    start_adds false e = resume_adds s code regs device local a b most state e

    start_goes_on : (l : Bool) → started l (a + b) ≡ gone_on (stopped (started l a).outcome) s code b (started l a)
    unfolding gone_on
    start_goes_on l =
        ⊎_elim
        (λ h. rw h (start_adds l (stops (started l a).outcome h)))
        (λ h. rw h (start_settled l h))
        (true_or_false (stopped (started l a).outcome))

  -- THEOREM: the run with a + b steps is that with a, and then what is left
  pub start_finishes : (l : Bool) (a b : ℕ) → a + b ≤ most_steps → started l (a + b) ≡ finished s code b (started l a)
  unfolding finished
  start_finishes l a zero most = ap (started l) (add-zero a)
  start_finishes l a (suc b) most = start_goes_on a (suc b) most l

-- ---- what is left
module _ (s : Settings) (code : List ℕ) where
  added_gone : (n b : ℕ) (x : Answered) (q : Bool) → added n (gone_on q s code b x) ≡ gone_on q s code b (added n x)
  unfolding gone_on
  added_gone n b x true = rw add_assoc
  added_gone n b x false = refl

  added_finished : (n b : ℕ) (x : Answered) → added n (finished s code b x) ≡ finished s code b (added n x)
  unfolding finished
  added_finished n zero x = refl
  added_finished n (suc b) x = added_gone n (suc b) x (stopped x.outcome)

  -- going on with some steps, where the run was stopped
  gone_on_lem : (b : ℕ) (x : Answered) → 0 < b → stopped x.outcome ≡ true → finished s code b x ≡ added x.steps (resumed_with b s code x)
  unfolding finished gone_on
  gone_on_lem zero x p h = absurd (omega arith)
  gone_on_lem (suc b) x p h = rw h

  -- THEOREM: where a run was stopped, what is left is a slice of it, and then what is left
  pub slice_finishes : (c b : ℕ) (x : Answered) → c + b ≤ most_steps → 0 < c → stopped x.outcome ≡ true
      → finished s code (c + b) x ≡ finished s code b (added x.steps (resumed_with c s code x))
  unfolding start_of
  slice_finishes c b x most p h =
      gone_on_lem (c + b) x (omega arith) h
      ∙ ap (added x.steps) (start_finishes s code x.state x.regs x.memories.device x.memories.local false c b most)
      ∙ added_finished x.steps b (resumed_with c s code x)

  -- a run that wasn't stopped has nothing left
  nothing_left : (b : ℕ) (x : Answered) → stopped x.outcome ≡ false → finished s code b x ≡ x
  unfolding finished gone_on
  nothing_left zero x h = refl
  nothing_left (suc b) x h = rw h

-- ---- slice by slice

-- what was gone on with made no more steps than its budget
pub resumed_most : (s : Settings) (state : State) (code regs device local : List ℕ) {x : Answered}
    → x ≡ resume_of s state code regs device local → x.steps ≤ s.budget
resumed_most s state code regs device local e = rw e (resume_most s code state regs device local)

-- at a turn: what is left finishes the run, and the steps fit
pub record Going (s : Settings) (code : List ℕ) (whole : Answered) (left : ℕ) (x : Answered) : Type 0 where
  pub finishes : whole ≡ finished s code left x
  pub few : x.steps + left ≤ most_steps

-- the first slice
pub begun : {s t : Settings} {code : List ℕ} {first : ℕ} {x : Answered} (slice : ℕ) (l : Bool) (state : State) (regs device local : List ℕ)
    → s.budget ≤ most_steps → first ≡ min s.budget slice → t ≡ budgeted first s → x ≡ start_of l t state code regs device local
    → Going s code (start_of l s state code regs device local) (s.budget - first) x
begun {s} {t} {code} {first} {x} slice l state regs device local most f e h =
    let sum : first + (s.budget - first) ≡ s.budget = omega arith in
    let y : x ≡ start_of l (budgeted first s) state code regs device local = rw e at h in
    record {
      finishes = rw y (rw sum at (start_finishes s code state regs device local l first (s.budget - first) (omega arith)));
      few = rw y (omega (arith, start_most (budgeted first s) code l state regs device local));
    }

module _ {s : Settings} {code : List ℕ} {whole : Answered} {left : ℕ} {x : Answered} (g : Going s code whole left x) where
  -- one slice more
  pub gone_further : {t : Settings} {c : ℕ} {y : Answered} (slice : ℕ) → stopped x.outcome ≡ true → 0 < left → 0 < slice → c ≡ min left slice
      → t ≡ budgeted c s → y ≡ added x.steps (resume_of t x.state code x.regs x.memories.device x.memories.local)
      → Going s code whole (left - c) y
  gone_further {t} {c} {y} slice h some more f e d =
      let sum : c + (left - c) ≡ left = omega arith in
      let z : y ≡ added x.steps (resumed_with c s code x) = rw e at d in
      record {
        finishes = rw (g.finishes, z) (rw sum at (slice_finishes s code c (left - c) x (omega arith) (omega arith) h));
        few = rw z (omega (arith, resume_most (budgeted c s) code x.state x.regs x.memories.device x.memories.local));
      }

  -- nothing is left, of the budget or of the run
  pub spent : left ≡ 0 → x ≡ whole
  unfolding finished
  spent e = rw e at (sym g.finishes)

  pub over : stopped x.outcome ≡ false → x ≡ whole
  over h = sym (g.finishes ∙ nothing_left s code left x h)
