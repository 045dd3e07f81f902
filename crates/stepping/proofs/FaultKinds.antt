-- The faults that a step gives: an instruction faults by its lanes' work, or at a barrier, where nothing else faults; and the lanes of each
-- kind are active.
use Rattle.std.specs.Prelude.{Option, Some, None}
use mathlib.Core.Bool.{Bool, true, false, cond}
use mathlib.Core.List.{[], ◌∷◌}
use Prim.Native.Nat.{ℕ, ◌≤◌}
use native.Mathlib.Omega.{arith}
use Rattle.lanes.specs.Sets.{bit}
use Rattle.lanes.proofs.Bits.{bit_zero}
use Rattle.lanes.proofs.Members.{has_le}
use Rattle.instructions.specs.declared.instr.ControlOp.{ControlOp}
use Rattle.instructions.specs.declared.instr.ControlOp.TheVariants.{If, Else, Endif, Loop, Break, Continue, Endloop, Halt, Barrier, Nop}
use Rattle.words.specs.declared.reading.Fetched.{Fetched}
use Rattle.fetching.specs.Fetching.{control_in}
use Rattle.wave.specs.Wave.{Wave}
use Rattle.control.specs.Rules.{barred}
use Rattle.control.specs.Control.{fault_lanes}
use Rattle.wave.proofs.Guards.{executing_within}
use Rattle.faulting.specs.declared.faults.Faults.{Faults}
use Rattle.faulting.specs.Kinds.{lanes_of_kind}
use Rattle.faulting.proofs.EveryKind.{Only, barrier_only, barrier_lanes_lem}
use Rattle.faulting.proofs.KindsApart.{Apart, barrier_apart, Form}
use Rattle.compute.proofs.FaultLanes.{fault_executes, fault_apart, fault_form}
use Rattle.stepping.specs.declared.settings.Settings.{Settings}
use Rattle.stepping.specs.Machine.{Machine}
use Rattle.stepping.specs.Step.{shape_of, launched_of, lanes_of, computed, faults_by, step_of}
use Rattle.stepping.proofs.Naming.{lent_to_lem}

-- ---- which kinds come together

-- the lanes' work faults, or a barrier alone
pub data Faulty (f : Faults) : Type 0 where
  at_work : Form f → Faulty f
  at_barrier : Only (5 ∷ []) f → Faulty f

module _ (s : Settings) (x : Fetched) (m : Machine) where
  faulty_by : (c : Option ControlOp) → Faulty (faults_by c (launched_of s) m.wave (computed s x.instr (lanes_of x.instr m) m).faults)
  faulty_by (Some o) = at_barrier (barrier_only (fault_lanes o (launched_of s) m.wave))
  faulty_by None = at_work (fault_form (shape_of s) x.instr (lanes_of x.instr m) (lent_to_lem x.instr m))

  pub step_faulty : Faulty (step_of s x m).faults
  unfolding step_of
  step_faulty = faulty_by (control_in x.instr.op)

  -- no lane is of two kinds
  apart_of : (c : Option ControlOp) → Apart (faults_by c (launched_of s) m.wave (computed s x.instr (lanes_of x.instr m) m).faults)
  apart_of (Some o) = barrier_apart (fault_lanes o (launched_of s) m.wave)
  apart_of None = fault_apart (shape_of s) x.instr (lanes_of x.instr m) (lent_to_lem x.instr m)

  pub step_apart : Apart (step_of s x m).faults
  unfolding step_of
  step_apart = apart_of (control_in x.instr.op)

-- ---- their lanes are active

-- every lane of a set is one of a
abbrev pub Lanes : ℕ → ℕ → Type 0
Lanes a set = (i : ℕ) → bit set i ≤ bit a i

active_or_none : (c : Bool) (a : ℕ) → Lanes a (cond c a 0)
active_or_none true a i = omega arith
active_or_none false a i = omega (arith, bit_zero i)

none_active : (a : ℕ) → Lanes a 0
none_active a i = omega (arith, bit_zero i)

control_active : (o : ControlOp) (all : ℕ) (w : Wave) → Lanes w.active (fault_lanes o all w)
unfolding fault_lanes
control_active If all w = none_active w.active
control_active Else all w = none_active w.active
control_active Endif all w = none_active w.active
control_active Loop all w = none_active w.active
control_active Break all w = none_active w.active
control_active Continue all w = none_active w.active
control_active Endloop all w = none_active w.active
control_active Halt all w = none_active w.active
control_active Barrier all w = active_or_none (barred all w) w.active
control_active Nop all w = none_active w.active

module _ (s : Settings) (x : Fetched) (m : Machine) where
  lanes_in_lem : (c : Option ControlOp) (k : ℕ) → Lanes m.wave.active (lanes_of_kind k (faults_by c (launched_of s) m.wave (computed s x.instr (lanes_of x.instr m) m).faults))
  lanes_in_lem (Some o) k =
      barrier_lanes_lem (Lanes m.wave.active) (fault_lanes o (launched_of s) m.wave) (control_active o (launched_of s) m.wave)
      (none_active m.wave.active) k
  lanes_in_lem None k =
      λ i.
      omega (
        arith,
        has_le (lanes_of_kind k (computed s x.instr (lanes_of x.instr m) m).faults) (lanes_of x.instr m)
            (λ j h. (fault_executes (shape_of s) x.instr (lanes_of x.instr m) (lent_to_lem x.instr m) k j h).1) i,
        executing_within x.instr.guard m.wave.active m.preds i,
      )

  -- the lanes of every kind are
  pub step_lanes : (k : ℕ) → Lanes m.wave.active (lanes_of_kind k (step_of s x m).faults)
  unfolding step_of
  step_lanes = lanes_in_lem (control_in x.instr.op)
