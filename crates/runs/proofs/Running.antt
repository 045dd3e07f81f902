-- A call that breaks no rule of the page's table runs; and wherever its run comes by without having ended, an instruction stands at the place,
-- and is carried out by the page's rules and by no way out that the definitions have.
use Rattle.refusals.specs.declared.Refusal.{Refusal}
use Rattle.std.specs.Prelude.{Result, Ok, Err}
use Prim.Native.Nat.{ℕ, ◌*◌, ◌≤◌, ◌<◌, ◌^◌}
use native.Mathlib.Nat.{min-eq_left, mod-eq_of_lt}
use native.Mathlib.Omega.{arith}
use mathlib.Core.Path.{◌≡◌, refl, sym, ap, ◌∙◌}
use mathlib.Core.Bool.{true, false}
use mathlib.Core.List.{List}
use lib.ListN.{length}
use borrow.Author.Tests.{leb-true, le-leb}
use Rattle.ground.proofs.Bools.{never}
use Rattle.lanes.specs.Sets.{widest}
use Rattle.instructions.specs.declared.instr.Op.{Op}
use Rattle.instructions.specs.declared.instr.Instr.{Instr}
use Rattle.words.specs.declared.reading.Fetched.{Fetched}
use Rattle.words.specs.Layout.{words_of, counted}
use Rattle.words.proofs.Standing.{stood, read_span}
use Rattle.fetching.proofs.Fetches.{fetched}
use Rattle.blocks.specs.Code.{code_of}
use Rattle.std.specs.Prelude.{Ok}
use Rattle.blocks.specs.Item.{item_of}
use Rattle.nesting.specs.OpenAt.{open_at}
use Rattle.nesting.specs.Nesting.{Nested}
use Rattle.instructions.proofs.PastRegisters.{past_if}
use Rattle.wave.specs.declared.state.State.{State}
use Rattle.wave.specs.Layout.{opened}
use Rattle.fits.specs.Opens.{StateFits}
use Rattle.fits.proofs.Stays.{path_room, ready_there}
use Rattle.fits.proofs.Opens.{depth_room}
use Rattle.compute.specs.Carrying.{in_shape}
use Rattle.compute.proofs.Carrying.{carried_in}
use Rattle.stepping.specs.declared.settings.Settings.{Settings}
use Rattle.stepping.specs.Machine.{Machine}
use Rattle.stepping.specs.Step.{shape_of, step_of}
use Rattle.stepping.specs.Run.{ended_of, step_at, run_of}
use Rattle.stepping.specs.Answer.{run_from, state_machine}
use Rattle.replay.specs.Replay.{most_words, reading_of, launch_machine, launch_of, resume_of}
use Rattle.runs.specs.Refusals.{Bounded}
use Rattle.runs.specs.Running.{ComesBy, at_once, further, lent_of, Instructed}
use Rattle.runs.proofs.Allowing.{allowed_narrow}
use Rattle.stepping.proofs.Runs.{run_induction}
use Rattle.runs.proofs.Keeping.{inside, found_instruction, step_keeps, step_long}
use Rattle.runs.proofs.Returns.{Launchable, launchable, lanes_most, InOrder, launch_in_order, given_in_order, launched, resumed}
use Rattle.runs.proofs.Breaking.{launch_passes, state_fit_if, resume_passes}

-- ---- a run comes by the machine that it answers, after the steps that it counts
pub run_comes : (s : Settings) (code : List ℕ) (b : ℕ) (m : Machine) → ComesBy s code (run_of s code b m).steps m (run_of s code b m).end
run_comes s code =
    run_induction s code (λ b m r. ComesBy s code r.steps m r.end) (λ b m e. at_once) (λ m e. at_once) (λ b m e c. at_once)
    (λ b m r e c h. further e c h)

-- ---- a machine in order
module _ (s : Settings) (code : List ℕ) (l : Launchable s code) where
  short : length code ≤ most_words
  short = leb-true (length code) most_words l.short

  comes_in_order : (n : ℕ) (m k : Machine) → ComesBy s code n m k → InOrder s code l m → InOrder s code l k
  comes_in_order n m k at_once o = o
  comes_in_order n m k (further {n = n'} e c r) o =
      comes_in_order n' (step_at s code m).end k r
      (record {
        fits = step_keeps code (reading_of s) l.checked short s s.lanes m (inside s code m e) o.fits;
        long = step_long s code m ∙ o.long;
      })

  instructed : s.width ≤ widest → (m : Machine) → InOrder s code l m → ended_of s code m ≡ false → Instructed s code m
  instructed wide m o e =
      let at = m.wave.place in
      let h : at < length code = inside s code m e in
      let few : length code < 2 ^ 32 = omega (arith, short) in
      let i = found_instruction code (reading_of s) l.checked short at m.wave.path h (open_at (code_of code (reading_of s)) at) refl o.fits.blocks in
      let x : Instr = i.instr in
      let f = fetched code at i.width x i.reads in
      let w = stood code at x i.width i.reads in
      let shaped : in_shape (shape_of s) x m.regs ≡ true =
      rw (le-leb s.width widest wide, i.below, le-leb (s.width * s.registers) (length m.regs) (omega (arith, o.long))) refl in
      record {
        instr = x;
        stands = w.0;
        reads = i.reads ∙ ap (λ (n : ℕ). Ok (counted x n)) w.1;
        carried = f ∙ ap (counted x) w.1;
        next = mod-eq_of_lt (omega (arith, read_span code at x i.width i.reads, w.1, short));
        below = λ p. never (sym ((past_if s.registers x).1 p) ∙ i.below);
        shaped = shaped;
        computes = λ t. carried_in (shape_of s) x t (lent_of x m) shaped;
        ready =
            λ c ec.
            ready_there code (reading_of s) l.checked few m.wave h c s.lanes m.preds
            (i.item_is ∙ ap (λ (op : Op). Ok (item_of op i.width)) ec) o.fits;
        deep = path_room code (reading_of s) s.lanes m.wave m.preds o.fits;
        lanes = min-eq_left (lanes_most s code l);
      }

-- the step of a machine whose instruction is known
pub step_of_lem : (s : Settings) (code : List ℕ) (m : Machine) (i : Instructed s code m) → step_at s code m ≡ step_of s (counted i.instr (length (words_of i.instr))) m
step_of_lem s code m i = ap (λ (x : Fetched). step_of s x m) i.carried

-- ---- THEOREMS
module _ (s : Settings) (code regs device local : List ℕ) (bounded : Bounded s code regs) (nested : Nested code (reading_of s)) where
  lawful : Launchable s code
  lawful = launchable s s.budget code regs ((launch_passes s code regs).1 (bounded, nested))

  -- A LAUNCH in bounds, of code whose blocks nest, runs
  pub launch_runs : launch_of s code regs device local ≡ run_from s code (launch_machine s regs device local)
  launch_runs = launched s code regs device local ((launch_passes s code regs).1 (bounded, nested))

  -- and wherever its run comes by without having ended, an instruction stands at the place
  pub launch_instructed : (n : ℕ) (m : Machine) → ComesBy s code n (launch_machine s regs device local) m → ended_of s code m ≡ false
      → Instructed s code m
  launch_instructed n m c =
      instructed s code lawful (allowed_narrow s bounded.allowed) m
      (comes_in_order s code lawful n (launch_machine s regs device local) m c (launch_in_order s code lawful regs device local bounded.buffer))

  module _ (state : State) (fits : StateFits code (reading_of s) s.lanes state.hot state.blocks) where
    -- GOING ON from a state that fits runs
    pub resume_runs : resume_of s state code regs device local ≡ run_from s code (state_machine state regs device local)
    resume_runs = resumed s code regs device local state ((resume_passes s code regs state).1 (bounded, nested, fits))

    -- from all the blocks that the state has open
    pub resume_opens : (state_machine state regs device local).wave.path ≡ opened state.blocks state.hot.depth
    resume_opens =
        ap (opened state.blocks)
        (min-eq_left (depth_room code (reading_of s) s.lanes nested (lanes_most s code lawful) state.hot state.blocks fits.opens))

    pub resume_instructed : (n : ℕ) (m : Machine) → ComesBy s code n (state_machine state regs device local) m → ended_of s code m ≡ false
        → Instructed s code m
    resume_instructed n m c =
        instructed s code lawful (allowed_narrow s bounded.allowed) m
        (comes_in_order s code lawful n (state_machine state regs device local) m c
        (given_in_order s code lawful state regs device local bounded.buffer ((state_fit_if s code regs state bounded nested).1 fits)))
