-- Any control instruction: what it makes of the wave, the lanes at which it faults, and what the code holds after it.
use Rattle.std.specs.Prelude.{ℕ, List}
use Rattle.lanes.specs.declared.said.Block.{Block}
use Rattle.instructions.specs.declared.instr.ControlOp.{ControlOp}
use Rattle.instructions.specs.declared.instr.ControlOp.TheVariants.{If, Else, Endif, Loop, Break, Continue, Endloop, Halt, Barrier, Nop}
use Rattle.wave.specs.declared.state.Hot.{Hot}
use Rattle.control.specs.declared.rules.Stepped.{Stepped}
use Rattle.wave.specs.Wave.{Wave, Held, held, after, wave_of}
use Rattle.control.specs.Rules.{onward, if_rule, else_rule, endif_rule, loop_rule, break_rule, continue_rule, endloop_rule, halt_rule, barrier_rule, barrier_lanes}

-- the wave after it; all: the launched lanes, t: the executing ones
unfoldable pub control_rule : ControlOp → ℕ → ℕ → Wave → Wave
control_rule If all t w = if_rule t w
control_rule Else all t w = else_rule w
control_rule Endif all t w = endif_rule w
control_rule Loop all t w = loop_rule w
control_rule Break all t w = break_rule t w
control_rule Continue all t w = continue_rule t w
control_rule Endloop all t w = endloop_rule w
control_rule Halt all t w = halt_rule t w
control_rule Barrier all t w = barrier_rule all w
control_rule Nop all t w = onward w

-- the lanes of fault 5, which only BARRIER has
unfoldable pub fault_lanes : ControlOp → ℕ → Wave → ℕ
fault_lanes If all w = 0
fault_lanes Else all w = 0
fault_lanes Endif all w = 0
fault_lanes Loop all w = 0
fault_lanes Break all w = 0
fault_lanes Continue all w = 0
fault_lanes Endloop all w = 0
fault_lanes Halt all w = 0
fault_lanes Barrier all w = barrier_lanes all w
fault_lanes Nop all w = 0

-- what a control instruction gives: the lanes of fault 5, and what the code holds after it
pub record Given : Type 0 where
  pub barrier : ℕ
  pub end : Held

abbrev pub given : Stepped → List Block → Given
given r ys = record { barrier = r.barrier; end = held r.hot ys }

abbrev pub giving : ℕ → (Wave → Wave) → Hot → List Block → Given
giving lanes f h xs = record { barrier = lanes; end = after f h xs }

abbrev pub control_of : ControlOp → ℕ → ℕ → Hot → List Block → Given
control_of op all t h xs = giving (fault_lanes op all (wave_of h xs)) (control_rule op all t) h xs
