-- A run of checked code keeps a fitting wave fitting: the instruction that is carried out is the one that the check saw, its lanes are
-- active ones, and a predicate gains none but these.
use Rattle.instructions.specs.declared.instr.ControlOp.{ControlOp}
use Rattle.std.specs.Prelude.{Option, Some, None}
use mathlib.Core.Path.{◌≡◌, refl, sym, ap, ◌∙◌}
use mathlib.Core.Bool.{Bool, true, false, cond, ◌||◌}
use mathlib.Core.List.{List}
use Prim.Native.Nat.{ℕ, ◌^◌, ◌≤◌, ◌<◌}
use native.Mathlib.Omega.{arith}
use borrow.Author.Tests.{leb-false}
use lib.Dec.{eqb, leb}
use lib.ListN.{length}
use Rattle.ground.proofs.Bools.{never}
use Rattle.lanes.specs.Sets.{bit, first, without}
use Rattle.lanes.proofs.Members.{joined_le}
use Rattle.words.specs.declared.reading.Fetched.{Fetched}
use Rattle.instructions.specs.declared.instr.Instr.{Instr}
use Rattle.fetching.specs.Fetching.{fetch_at, instr_at, control_in}
use Rattle.fetching.proofs.Fetches.{fetched, fetch_most}
use Rattle.blocks.specs.declared.item.Reading.{Reading}
use Rattle.std.specs.Prelude.{Ok}
use Rattle.blocks.specs.Item.{item_by, item_of, item_at}
use Rattle.blocks.specs.Code.{code_of}
use Rattle.blocks.specs.Scan.{check_of}
use Rattle.nesting.specs.OpenAt.{Found, open_at}
use Rattle.nesting.proofs.Instructions.{Instruction, instruction_there}
use Rattle.lanes.specs.declared.said.Block.{Block}
use Rattle.wave.specs.Wave.{Wave, Preds}
use Rattle.control.specs.Control.{control_rule}
use Rattle.fits.specs.Fits.{OpenThere, WaveFits}
use Rattle.fits.proofs.AtLane.{PredsFit, fits_lanes, lanes_fit}
use Rattle.wave.proofs.Guards.{executing_within}
use Rattle.fits.proofs.Keeps.{active_launched}
use Rattle.fits.proofs.Stays.{control_keeps, onward_keeps}
use Rattle.faulting.specs.Kinds.{clear}
use Rattle.compute.proofs.Carrying.{other_bits, length-regs}
use Rattle.stepping.specs.declared.settings.Settings.{Settings}
use Rattle.stepping.specs.Machine.{Machine, named, with_named}
use Rattle.stepping.specs.Step.{shape_of, launched_of, lanes_of, computed, wave_by, faults_in, carried_by, step_of}
use Rattle.stepping.specs.Run.{ended_of, step_at, run_of}
use Rattle.replay.specs.Replay.{most_words}
use Rattle.stepping.proofs.Naming.{lent_to_lem}
use Rattle.runs.proofs.NamedLanes.{named_fits, with_named_fits}
use Rattle.stepping.proofs.Runs.{run_induction}

-- a wave that fits does so with any predicates of launched lanes
other_preds : (code : List ℕ) (by : Reading) (n : ℕ) (w : Wave) (ps qs : Preds) → PredsFit (first n) qs → WaveFits code by n w ps
    → WaveFits code by n w qs
other_preds code by n w ps qs q f = record { blocks = f.blocks; sets = lanes_fit n w qs (fits_lanes n w ps f.sets).0 q }

-- ---- a run that has not ended stands inside the code
either_false : (a b : Bool) → (a || b) ≡ false → a ≡ false
either_false true b e = never (sym e)
either_false false b e = refl

pub inside : (s : Settings) (code : List ℕ) (m : Machine) → ended_of s code m ≡ false → m.wave.place < length code
inside s code m e =
    leb-false (length code) m.wave.place
    (either_false (leb (length code) m.wave.place) (eqb (without (launched_of s) m.wave.halted) 0) e)

-- ---- checked code
module _ (code : List ℕ) (by : Reading) (checked : check_of (code_of code by) ≡ Ok tt) (short : length code ≤ most_words) where
  fewer : length code < 2 ^ 32
  fewer = omega arith

  -- the instruction that is carried out is the one that the check saw
  pub found_instruction : (place : ℕ) (path : List Block) → place < length code → (x : Found) → open_at (code_of code by) place ≡ x
      → OpenThere x path → Instruction code by place
  found_instruction place path h None e f = absurd f
  found_instruction place path h (Some o) e f = instruction_there code by place checked o e h

  pub item_there : (place : ℕ) (path : List Block) → place < length code → OpenThere (open_at (code_of code by) place) path
      → item_at code by place ≡ Ok (item_of (fetch_at code place).instr.op (fetch_at code place).words)
  item_there place path h f =
      let i = found_instruction place path h (open_at (code_of code by) place) refl f in
      i.item_is ∙ ap (λ (x : Fetched). Ok (item_of x.instr.op x.words)) (sym (fetched code place i.width i.instr i.reads))

  module _ (n all t : ℕ) (w : Wave) (ps qs : Preds) (h : w.place < length code) (lanes : (i : ℕ) → bit t i ≤ bit w.active i)
      (q : PredsFit (first n) qs) (f : WaveFits code by n w ps) where
    wave_keeps : (c : Option ControlOp) (words : ℕ) → words ≤ 2 → item_at code by w.place ≡ Ok (item_by c words)
        → WaveFits code by n (wave_by c words all t w) qs
    wave_keeps (Some o) words m i =
        other_preds code by n (control_rule o all t w) ps qs q (control_keeps code by checked fewer w h o n all t ps i lanes f)
    wave_keeps None words m i = onward_keeps code by checked fewer w h n words ps qs i (omega arith) q f

  module _ (s : Settings) (n : ℕ) where
    -- the wave and its predicates fit
    abbrev MachineFits : Machine → Type 0
    MachineFits m = WaveFits code by n m.wave m.preds

    preds_keep : (x : Instr) (m : Machine) → MachineFits m
        → PredsFit (first n) (with_named x.rd (computed s x (lanes_of x m) m).after.predicate m.preds)
    preds_keep x m f =
        let p = (fits_lanes n m.wave m.preds f.sets).1 in
        with_named_fits (first n) m.preds p (computed s x (lanes_of x m) m).after.predicate
        (λ i.
        omega (
          arith,
          joined_le (computed s x (lanes_of x m) m).after.predicate (named x.rd m.preds) (lanes_of x m) i
              (other_bits (shape_of s) x (lanes_of x m) (lent_to_lem x m) i),
          named_fits (first n) m.preds p x.rd i,
          executing_within x.guard m.wave.active m.preds i,
          active_launched n m.wave m.preds f.sets i,
        ))
        x.rd

    carried_keeps : (m : Machine) → m.wave.place < length code → MachineFits m
        → MachineFits (carried_by s (fetch_at code m.wave.place) (lanes_of (instr_at code m.wave.place) m) m)
    carried_keeps m h f =
        let x : Instr = instr_at code m.wave.place in
        wave_keeps n (launched_of s) (lanes_of x m) m.wave m.preds
        (with_named x.rd (computed s x (lanes_of x m) m).after.predicate m.preds) h (executing_within x.guard m.wave.active m.preds)
        (preds_keep x m f) f (control_in x.op) (fetch_at code m.wave.place).words (fetch_most code m.wave.place) (item_there m.wave.place m.wave.path h f.blocks)

    chosen : (c : Bool) (v m : Machine) → MachineFits v → MachineFits m → MachineFits (cond c v m)
    chosen true v m f g = f
    chosen false v m f g = g

    -- A STEP keeps a fitting wave fitting
    pub step_keeps : (m : Machine) → m.wave.place < length code → MachineFits m → MachineFits (step_at s code m).end
    unfolding step_of
    step_keeps m h f =
        chosen (clear (faults_in s (instr_at code m.wave.place) m))
        (carried_by s (fetch_at code m.wave.place) (lanes_of (instr_at code m.wave.place) m) m) m (carried_keeps m h f) f

    -- A RUN keeps it
    pub run_keeps : (b : ℕ) (m : Machine) → MachineFits m → MachineFits (run_of s code b m).end
    run_keeps =
        run_induction s code (λ b m r. MachineFits m → MachineFits r.end) (λ b m e f. f) (λ m e f. f) (λ b m e c f. f)
        (λ b m r e c h f. h (step_keeps m (inside s code m e) f))

-- ---- the registers
module _ (s : Settings) (code : List ℕ) where
  either_long : (c : Bool) (v m : Machine) → length v.regs ≡ length m.regs → length (cond c v m).regs ≡ length m.regs
  either_long true v m e = e
  either_long false v m e = refl

  pub step_long : (m : Machine) → length (step_at s code m).end.regs ≡ length m.regs
  unfolding step_of
  step_long m =
      let x : Instr = instr_at code m.wave.place in
      either_long (clear (faults_in s x m)) (carried_by s (fetch_at code m.wave.place) (lanes_of x m) m) m
      (length-regs (shape_of s) x (lanes_of x m) (lent_to_lem x m))

  -- no step adds or loses a register
  pub run_long : (b : ℕ) (m : Machine) → length (run_of s code b m).end.regs ≡ length m.regs
  run_long =
      run_induction s code (λ b m r. length r.end.regs ≡ length m.regs) (λ b m e. refl) (λ m e. refl) (λ b m e c. refl)
      (λ b m r e c h. h ∙ step_long m)
