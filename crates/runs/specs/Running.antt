-- The machines that a run comes by, and what stands at the place of one that has not ended. The definitions of a step are total: they have an
-- answer too where no instruction stands at the place, where a register is not in the buffer, where there is no block to close or no room for
-- one. `Instructed` says that none of these is the case.
use Rattle.refusals.specs.declared.Refusal.{Refusal}
use Rattle.words.specs.declared.reading.Fetched.{Fetched}
use Rattle.std.specs.Prelude.{ℕ, ◌+◌, ◌≤◌, ◌≡◌, true, false, List, length, Result, Ok, Err}
use Rattle.lanes.specs.Blocks.{nesting}
use Rattle.instructions.specs.declared.instr.ControlOp.{ControlOp}
use Rattle.instructions.specs.declared.instr.Op.{Op}
use Rattle.instructions.specs.declared.instr.Instr.{Instr}
use Rattle.words.specs.Layout.{words_of, counted}
use Rattle.words.specs.Reading.{read_at}
use Rattle.words.specs.Rules.{Stands}
use Rattle.fetching.specs.Fetching.{fetch_at}
use Rattle.instructions.specs.Registers.{Past}
use Rattle.wave.specs.Going.{on_by}
use Rattle.control.specs.Ready.{Ready}
use Rattle.faulting.specs.Kinds.{clear}
use Rattle.compute.specs.Operands.{Lent, operands_of}
use Rattle.compute.specs.Carrying.{in_shape, having_read}
use Rattle.stepping.specs.declared.settings.Settings.{Settings}
use Rattle.stepping.specs.Machine.{Machine, named}
use Rattle.stepping.specs.Step.{shape_of, launched_lanes, computed}
use Rattle.stepping.specs.Run.{ended_of, step_at}

-- a run from one machine comes by another after so many steps, whatever its budget, if that is enough
pub data ComesBy (s : Settings) (code : List ℕ) : ℕ → Machine → Machine → Type 0 where
  at_once : {m : Machine} → ComesBy s code 0 m m
  further : {n : ℕ} {m k : Machine} → ended_of s code m ≡ false → clear (step_at s code m).faults ≡ true → ComesBy s code n (step_at s code m).end k
      → ComesBy s code (1 + n) m k

-- what an instruction is lent
abbrev pub lent_of : Instr → Machine → Lent
lent_of x m = record { predicate = named x.rd m.preds; regs = m.regs; memories = m.memories }

pub record Instructed (s : Settings) (code : List ℕ) (m : Machine) : Type 0 where
  -- the place is an instruction's first word: reading gives this instruction, and the step carries it out
  pub instr : Instr
  pub stands : Stands code m.wave.place instr
  pub reads : read_at code m.wave.place ≡ Ok (counted instr (length (words_of instr)))
  pub carried : fetch_at code m.wave.place ≡ counted instr (length (words_of instr))
  -- the place after it is a number of 32 bits
  pub next : on_by (length (words_of instr)) m.wave.place ≡ m.wave.place + length (words_of instr)
  -- none of its registers is R or more, so that it is in shape: what any lanes make of what was lent is what they make of it having read their
  -- registers
  pub below : Past s.registers instr → ⊥
  pub shaped : in_shape (shape_of s) instr m.regs ≡ true
  pub computes : (t : ℕ) → computed s instr t m ≡ having_read (shape_of s) instr t (operands_of (shape_of s) instr m.regs) (lent_of instr m)
  -- a control instruction has the blocks open that its rule is about, and room
  pub ready : (o : ControlOp) → instr.op ≡ Op.Control o → Ready o m.wave.path
  -- no more blocks are open than there is room for, and as many lanes are launched as the settings say
  pub deep : length m.wave.path ≤ nesting
  pub lanes : launched_lanes s ≡ s.lanes
