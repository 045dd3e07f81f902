-- One step: an instruction carried out by the executing lanes, part by part. At a fault everything is as before it.
use Rattle.instructions.specs.declared.instr.ControlOp.{ControlOp}
use Rattle.std.specs.Prelude.{ℕ, min, cond, List, Option, Some, None, Result, Ok, Err}
use Rattle.lanes.specs.Sets.{widest, first}
use Rattle.lanes.specs.declared.said.Block.{Block}
use Rattle.instructions.specs.declared.instr.Instr.{Instr}
use Rattle.words.specs.declared.reading.Fetched.{Fetched}
use Rattle.fetching.specs.Fetching.{control_in}
use Rattle.wave.specs.declared.state.Hot.{Hot}
use Rattle.wave.specs.Wave.{Wave}
use Rattle.wave.specs.Going.{executing_of, onward_by}
use Rattle.control.specs.Control.{control_rule, fault_lanes}
use Rattle.faulting.specs.declared.faults.Faults.{Faults}
use Rattle.faulting.specs.Kinds.{clear, no_faults, of_barrier}
use Rattle.compute.specs.declared.Shape.{Shape}
use Rattle.compute.specs.Registers.{lanes_in}
use Rattle.compute.specs.Carrying.{Outcome, carried_of}
use Rattle.stepping.specs.declared.settings.Settings.{Settings}
use Rattle.stepping.specs.Machine.{Machine, machine_of, named, with_named}

abbrev pub shape_of : Settings → Shape
shape_of s = record { width = s.width; registers = s.registers }

-- a lent buffer of registers, as the definitions read it
abbrev pub registers_in : Settings → List ℕ → List ℕ
registers_in s l = lanes_in (shape_of s) l

-- n: a wave is never wider than the widest
abbrev pub launched_lanes : Settings → ℕ
launched_lanes s = min s.lanes widest

-- the launched lanes
abbrev pub launched_of : Settings → ℕ
launched_of s = first (launched_lanes s)

-- the executing lanes: the active ones whose predicate agrees
abbrev pub lanes_of : Instr → Machine → ℕ
lanes_of x m = executing_of x.guard m.wave.active m.preds

-- what the lanes t make of the predicate that RD names, of the registers and of the memories
abbrev pub computed : Settings → Instr → ℕ → Machine → Outcome
computed s x t m = carried_of (shape_of s) x t (record { predicate = named x.rd m.preds; regs = m.regs; memories = m.memories })

-- what the lanes t make of the wave: a control instruction goes by its rule, any other on by its n words; all: the launched lanes
abbrev pub wave_by : Option ControlOp → ℕ → ℕ → ℕ → Wave → Wave
wave_by (Some o) n all t w = control_rule o all t w
wave_by None n all t w = onward_by n w

abbrev pub wave_after : Fetched → ℕ → ℕ → Wave → Wave
wave_after x all t w = wave_by (control_in x.instr.op) x.words all t w

-- the faults: a control instruction has those of a barrier, which only BARRIER has, and any other those of its lanes' work
abbrev pub faults_by : Option ControlOp → ℕ → Wave → Faults → Faults
faults_by (Some o) all w f = of_barrier (fault_lanes o all w)
faults_by None all w f = f

abbrev pub faults_in : Settings → Instr → Machine → Faults
faults_in s x m = faults_by (control_in x.op) (launched_of s) m.wave (computed s x (lanes_of x m) m).faults

-- the machine after the lanes t carried x out
abbrev pub carried_by : Settings → Fetched → ℕ → Machine → Machine
carried_by s x t m =
    record {
      wave = wave_after x (launched_of s) t m.wave;
      preds = with_named x.instr.rd (computed s x.instr t m).after.predicate m.preds;
      regs = (computed s x.instr t m).after.regs;
      memories = (computed s x.instr t m).after.memories;
    }

-- what a step gives: the faults, and the machine after it
pub record Stepped : Type 0 where
  pub faults : Faults
  pub end : Machine

abbrev pub step_as : Faults → Machine → Machine → Stepped
step_as f went m = record { faults = f; end = cond (clear f) went m }

unfoldable pub step_of : Settings → Fetched → Machine → Stepped
step_of s x m = step_as (faults_in s x.instr m) (carried_by s x (lanes_of x.instr m) m) m

-- the answer of the code from the hot numbers h, with the buffers as it leaves them
abbrev pub stepped : Hot → Result Hot Faults → List Block → List ℕ → List ℕ → List ℕ → Stepped
stepped h (Ok hot) path regs device local = record { faults = no_faults; end = machine_of hot path regs device local }
stepped h (Err faults) path regs device local = record { faults = faults; end = machine_of h path regs device local }

-- a step of an instruction that is no control instruction, by the lanes t
unfoldable pub ordinary_of : Settings → Fetched → ℕ → Machine → Stepped
ordinary_of s x t m =
    step_as (computed s x.instr t m).faults (record {
      wave = onward_by x.words m.wave;
      preds = with_named x.instr.rd (computed s x.instr t m).after.predicate m.preds;
      regs = (computed s x.instr t m).after.regs;
      memories = (computed s x.instr t m).after.memories;
    }) m
