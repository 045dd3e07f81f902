-- How the parts of a step that the code works out make up the step of the definition.
use Rattle.std.specs.Prelude.{Some, None}
use mathlib.Core.Path.{◌≡◌, refl, sym, ap, ap₂, ◌∙◌}
use mathlib.Core.Bool.{Bool, true, false, cond, and-true}
use mathlib.Core.List.{List}
use Prim.Native.Nat.{ℕ, min}
use native.Mathlib.Nat.{min-le_right, min-eq_left}
use native.Mathlib.Omega.{arith}
use lib.Dec.{eqb}
use lib.ListN.{length}
use Rattle.lanes.specs.Blocks.{nesting}
use Rattle.ground.proofs.Bools.{never}
use Rattle.instructions.specs.declared.instr.ControlOp.{ControlOp}
use Rattle.words.specs.declared.reading.Fetched.{Fetched}
use Rattle.fetching.specs.Fetching.{control_in}
use Rattle.instructions.specs.declared.instr.ControlOp.TheVariants.{If, Else, Endif, Loop, Break, Continue, Endloop, Halt, Barrier, Nop}
use Rattle.fetching.proofs.Fetches.{control_is}
use Rattle.lanes.specs.declared.said.Block.{Block}
use Rattle.wave.specs.declared.state.Hot.{Hot}
use Rattle.control.specs.declared.rules.Stepped.{Stepped}
use Rattle.wave.specs.Wave.{Wave, Preds, wave_of, preds_of, hot_of}
use Rattle.wave.specs.Going.{executing_of, onward_by}
use Rattle.control.specs.Rules.{onward, barred}
use Rattle.control.specs.Control.{control_rule, fault_lanes, control_of}
use Rattle.control.specs.Control as ruled
use Rattle.wave.specs.Layout.{over}
use Rattle.wave.proofs.Laying.{length-opened, over_same}
use Rattle.control.proofs.Seeing.{Seen, seen}
use Rattle.faulting.specs.declared.faults.Faults.{Faults}
use Rattle.faulting.specs.Kinds.{clear, no_faults, of_barrier}
use Rattle.faulting.proofs.EveryKind.{clear_none, barrier_clear}
use Rattle.compute.specs.Operands.{Lent, lent}
use Rattle.compute.specs.declared.Carried.{Carried}
use Rattle.compute.specs.Carrying.{Outcome, outcome, carried, carried_of}
use Rattle.compute.proofs.Carrying as carrying
use Rattle.stepping.specs.declared.settings.Settings.{Settings}
use Rattle.stepping.specs.Machine.{Machine, machine_of, named, with_named, hot_with}
use Rattle.stepping.specs.Step as spec
use Rattle.stepping.specs.Step.{shape_of, launched_of, lanes_of, computed, step_as, ordinary_of, step_of}
use Rattle.stepping.proofs.Naming.{named_same}
use Rattle.stepping.proofs.Runs.{keeps}

-- the wave that is read after going on by some words
pub onward_seen : (n : ℕ) (h : Hot) (ps : Preds) (xs : List Block) → wave_of (hot_of (onward_by n (wave_of h xs)) ps) xs ≡ onward_by n (wave_of h xs)
onward_seen n h ps xs =
    let e : min (min h.depth nesting) nesting ≡ min h.depth nesting = min-eq_left (min-le_right h.depth nesting) in
    rw (length-opened xs (min h.depth nesting), e)

abbrev given : Faults → Machine → spec.Stepped
given f m = record { faults = f; end = m }

-- a step goes where no lane faults, and stays where one does
step_goes : (f : Faults) (went m : Machine) → clear f ≡ true → given f went ≡ step_as f went m
step_goes f went m e = rw e

step_stays : (f : Faults) (went m : Machine) → clear f ≡ false → given f m ≡ step_as f went m
step_stays f went m e = rw e

-- ---- ordinary instructions
-- a machine of registers and memories
abbrev standing : Wave → Preds → Lent → Machine
standing w ps l = record { wave = w; preds = ps; regs = l.regs; memories = l.memories }

abbrev holding : Hot → List Block → Lent → Machine
holding h path l = standing (wave_of h path) (preds_of h) l

-- the machine after x, of what the lanes made of its predicate, its registers and memories
abbrev moved : Fetched → Machine → Lent → Machine
moved x m l = standing (onward_by x.words m.wave) (with_named x.instr.rd l.predicate m.preds) l

-- once the lanes t have worked on the predicate that RD names and on what was lent, which they left as it is afterwards
module _ (s : Settings) (x : Fetched) (t : ℕ) (h : Hot) (regs device local : List ℕ) (answer : Carried) {predicate : ℕ} {regs' device' local' : List ℕ}
    (named_is : predicate ≡ named x.instr.rd (preds_of h))
    (carries : carried answer regs' device' local' ≡ carried_of (shape_of s) x.instr t (lent predicate regs device local))
    (path : List Block) where
  abbrev l : Lent
  l = lent predicate regs device local

  abbrev o : Outcome
  o = carried answer regs' device' local'

  abbrev was : Machine
  was = holding h path l

  abbrev went : Machine
  went = moved x was o.after

  as_computed : o ≡ computed s x.instr t was
  as_computed =
      carries ∙ ap (λ (p : ℕ). carried_of (shape_of s) x.instr t (lent p regs device local)) named_is

  as_ordinary : step_as o.faults went was ≡ ordinary_of s x t was
  unfolding ordinary_of
  as_ordinary = ap (λ (q : Outcome). step_as q.faults (moved x was q.after) was) as_computed

  -- no lane faults: on by the instruction's words
  pub ordinary_on :
      {n hot : Hot} → clear answer.faults ≡ true → ((xs : List Block) → n ≡ hot_of (onward_by x.words (wave_of h xs)) (preds_of h)) →
      hot ≡ hot_with n (with_named x.instr.rd answer.predicate (preds_of n)) →
      given no_faults (holding hot path o.after) ≡ ordinary_of s x t was
  ordinary_on {hot = hot} e goes is =
      ap (λ (f : Faults). given f (holding hot path o.after)) (sym (clear_none answer.faults e))
      ∙ rw (is, goes path)
      (ap (λ (v : Wave). given o.faults (standing v (with_named x.instr.rd o.after.predicate (preds_of h)) o.after))
      (onward_seen x.words h (preds_of h) path))
      ∙ step_goes o.faults went was e
      ∙ as_ordinary

  -- some lane faults: nothing was written
  pub ordinary_off : clear answer.faults ≡ false → given o.faults (holding h path o.after) ≡ ordinary_of s x t was
  ordinary_off bad =
      let kept : o.after ≡ l =
      ap (λ (q : Outcome). q.after) carries
      ∙ carrying.faulted (shape_of s) x.instr t l (ap (λ (q : Outcome). clear q.faults) (sym carries) ∙ bad) in
      ap (λ (k : Lent). given o.faults (holding h path k)) kept
      ∙ step_stays o.faults went was bad
      ∙ as_ordinary

-- ---- the step of any instruction
-- an instruction that is no control instruction takes an ordinary step
pub step_ordinary :
    (s : Settings) (x : Fetched) (h : Hot) {t : ℕ} (path : List Block) (regs device local : List ℕ) →
    t ≡ executing_of x.instr.guard h.active (preds_of h) → control_in x.instr.op ≡ None →
    ordinary_of s x t (machine_of h path regs device local) ≡ step_of s x (machine_of h path regs device local)
unfolding ordinary_of step_of
step_ordinary s x h path regs device local lanes other = rw (lanes, other)

-- ---- control
-- a barrier that faults leaves the wave as it was
barred_by : (b : Bool) (a : ℕ) (v w : Wave) → eqb (cond b a 0) 0 ≡ false → cond b w v ≡ w
barred_by true a v w e = refl
barred_by false a v w e = never (sym e)

stays : (o : ControlOp) (all t : ℕ) (w : Wave) → eqb (fault_lanes o all w) 0 ≡ false → control_rule o all t w ≡ w
unfolding fault_lanes control_rule
stays If all t w e = never (sym e)
stays Else all t w e = never (sym e)
stays Endif all t w e = never (sym e)
stays Loop all t w e = never (sym e)
stays Break all t w e = never (sym e)
stays Continue all t w e = never (sym e)
stays Endloop all t w e = never (sym e)
stays Halt all t w e = never (sym e)
stays Barrier all t w e = barred_by (barred all w) w.active (onward w) w e
stays Nop all t w e = never (sym e)

-- going on and staying are the same wave where a barrier faults
either_way : (b : Bool) (v w : Wave) (m : Wave → Machine) → (b ≡ false → v ≡ w) → m v ≡ cond b (m v) (m w)
either_way true v w m h = refl
either_way false v w m h = ap m (h refl)

module _ (s : Settings) (x : Fetched) (o : ControlOp) (h : Hot) (path path' : List Block) (regs device local : List ℕ) (r : Stepped)
    (is : control_in x.instr.op ≡ Some o) where
  abbrev at : Machine
  at = machine_of h path regs device local

  abbrev with_wave : Wave → Machine
  with_wave w = record { wave = w; preds = preds_of h; regs = regs; memories = record { device = device; local = local } }

  idle : computed s x.instr (lanes_of x.instr at) at ≡ outcome no_faults (lent (named x.instr.rd (preds_of h)) regs device local)
  idle = carrying.control (shape_of s) x.instr (lanes_of x.instr at) _ o (control_is x.instr.op o is)

  by_rule :
      Seen o (launched_of s) (lanes_of x.instr at) h path r path' →
      given (of_barrier r.barrier) (machine_of r.hot path' regs device local) ≡ step_of s x at
  unfolding step_of
  by_rule q =
      rw (q.lanes, q.wave, q.preds, idle, is, named_same x.instr.rd (preds_of h), and-true)
      (ap (given (of_barrier (fault_lanes o (launched_of s) (wave_of h path))))
      (either_way (eqb (fault_lanes o (launched_of s) (wave_of h path)) 0) _ (wave_of h path) with_wave
      (stays o (launched_of s) (lanes_of x.instr at) (wave_of h path))))

-- a control instruction that was lent `path` and left path'
module _ (s : Settings) (x : Fetched) {o : ControlOp} (h : Hot) {t all : ℕ} (path : List Block) (regs device local : List ℕ) (r : Stepped) {f : Faults} {path' : List Block}
    (lanes : t ≡ executing_of x.instr.guard h.active (preds_of h)) (is : control_in x.instr.op ≡ Some o) (launched : all ≡ launched_of s)
    (long : length path ≡ nesting) (rules : ruled.given r path' ≡ control_of o all t h path) (alone : f ≡ of_barrier r.barrier) where
  pub went_by : given f (machine_of r.hot path' regs device local) ≡ step_of s x (machine_of h path regs device local)
  went_by =
      let q = seen o _ _ h path r _ long rules in
      rw alone (by_rule s x o h path _ _ _ _ r is (rw (launched, lanes) at q))

  -- no lane faults: it goes by its rule
  pub control_goes : clear f ≡ true → given no_faults (machine_of r.hot path' regs device local) ≡ step_of s x (machine_of h path regs device local)
  control_goes e = ap (λ (g : Faults). given g (machine_of r.hot path' regs device local)) (sym (clear_none f e)) ∙ went_by

  unwritten : eqb (fault_lanes o all (wave_of h path)) 0 ≡ false → path' ≡ path
  unwritten e =
      ap (λ (g : ruled.Given). g.end.blocks) rules
      ∙ ap (λ (w : Wave). over w.path path) (stays o all t (wave_of h path) e)
      ∙ over_same path (min h.depth nesting) (omega (arith, long, min-le_right h.depth nesting))

  -- some lane faults: everything is as it was
  pub control_stays : clear f ≡ false → given f (machine_of h path' regs device local) ≡ step_of s x (machine_of h path regs device local)
  control_stays e =
      let bad : eqb (fault_lanes o all (wave_of h path)) 0 ≡ false =
      sym (ap clear alone ∙ barrier_clear r.barrier ∙ ap (λ (g : ruled.Given). eqb g.barrier 0) rules) ∙ e in
      ap (λ (p : List Block). given f (machine_of h p regs device local)) (unwritten bad)
      ∙ ap₂ given (ap (λ (y : spec.Stepped). y.faults) went_by)
      (sym (keeps s x (machine_of h path regs device local) (sym (ap (λ (y : spec.Stepped). clear y.faults) went_by) ∙ e)))
