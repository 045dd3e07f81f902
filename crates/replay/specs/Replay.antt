-- Launching a kernel and going on from a state: the refusals in their order, and else the run.
use Rattle.std.specs.Prelude.{ℕ, ◌*◌, Bool, cond, ◌&&◌, ◌||◌, List, eqb, leb, length, replicate, Ok, Err}
use Rattle.refusals.specs.declared.Refusal.{Refusal}
use Rattle.refusals.specs.declared.Rule.{Rule}
use Rattle.refusals.specs.Table.{broken}
use Rattle.blocks.specs.declared.item.Reading.{Reading}
use Rattle.blocks.specs.Code.{code_of}
use Rattle.blocks.specs.Scan.{Checked, check_of}
use Rattle.wave.specs.declared.state.State.{State}
use Rattle.wave.specs.Wave.{state_of, launch, clear}
use Rattle.fits.specs.FitsTest.{fits_test}
use Rattle.compute.specs.Memory.{Memories, memories}
use Rattle.stepping.specs.declared.settings.Settings.{Settings}
use Rattle.stepping.specs.declared.answers.Outcome.{Outcome}
use Rattle.stepping.specs.declared.answers.Replayed.{Replayed}
use Rattle.stepping.specs.Machine.{Machine}
use Rattle.stepping.specs.Step.{launched_lanes}
use Rattle.stepping.specs.Answer.{Answered, run_from, state_machine}

-- ---- what is allowed
abbrev pub most_registers : ℕ
most_registers = 256

abbrev pub most_steps : ℕ
most_steps = 1000000000

abbrev pub most_words : ℕ
most_words = 65536

-- width 8, 16 or 32; registers 1 to 256; launched lanes 1 to W; step budget 0 to 1,000,000,000
abbrev pub settings_right : Settings → Bool
settings_right s =
    (eqb s.width 8 || eqb s.width 16 || eqb s.width 32)
    && leb 1 s.registers
    && leb s.registers most_registers
    && leb 1 s.lanes
    && leb s.lanes s.width
    && leb s.budget most_steps

-- what the code is checked for
abbrev pub reading_of : Settings → Reading
reading_of s = record { registers = s.registers }

-- ---- the tests, in their order: the first rule broken is the refusal
abbrev pub then_test : Checked → Checked → Checked
then_test (Ok tt) next = next
then_test (Err r) next = Err r

abbrev pub refused_unless : Bool → Refusal → Checked
refused_unless ok r = cond ok (Ok tt) (Err r)

abbrev pub setting_test : Settings → Checked
setting_test s = refused_unless (settings_right s) (broken Rule.Setting 0)

abbrev pub length_test : List ℕ → Checked
length_test code = refused_unless (leb (length code) most_words) (broken Rule.LongCode 0)

abbrev pub buffer_test : Settings → List ℕ → Checked
buffer_test s regs = refused_unless (eqb (length regs) (s.width * s.registers)) (broken Rule.Buffer 0)

abbrev pub bounds_test : Settings → List ℕ → List ℕ → Checked
bounds_test s code regs = then_test (setting_test s) (then_test (length_test code) (buffer_test s regs))

-- then instruction by instruction 4 to 9, then 10
abbrev pub launch_test : Settings → List ℕ → List ℕ → Checked
launch_test s code regs = then_test (bounds_test s code regs) (check_of (code_of code (reading_of s)))

-- then 11: the state doesn't fit
abbrev pub state_test : Settings → State → List ℕ → Checked
state_test s state code = refused_unless (fits_test code (reading_of s) s.lanes state.hot state.blocks) (broken Rule.State 0)

abbrev pub resume_test : Settings → State → List ℕ → List ℕ → Checked
resume_test s state code regs = then_test (launch_test s code regs) (state_test s state code)

-- ---- what a call answers

abbrev pub refused_as : Refusal → State → Replayed
refused_as r state = record { outcome = Outcome.Refused r; steps = 0; state = state }

-- a refusal reports zero steps, returns the state handed in and changes nothing lent
abbrev pub refused_call : Refusal → State → List ℕ → Memories → Answered
refused_call r state regs y = record { outcome = Outcome.Refused r; steps = 0; state = state; regs = regs; memories = y }

abbrev pub by_test : Checked → (Unit {0} → Answered) → State → List ℕ → Memories → Answered
by_test (Ok tt) run state regs y = run tt
by_test (Err r) run state regs y = refused_call r state regs y

-- ---- a launch
-- local memory is filled with zeros
abbrev pub fill : ℕ
fill = 0

abbrev pub filled : List ℕ → List ℕ
filled local = replicate (length local) fill

-- p1 to p3 clear, the launched lanes active, no block open, registers as lent
abbrev pub launch_machine : Settings → List ℕ → List ℕ → List ℕ → Machine
launch_machine s regs device local =
    record { wave = launch (launched_lanes s); preds = clear; regs = regs; memories = memories device (filled local) }

-- a refused launch returns place 0, empty sets, no block
abbrev pub not_launched : State
not_launched = state_of (launch 0) clear

unfoldable pub launch_of : Settings → List ℕ → List ℕ → List ℕ → List ℕ → Answered
launch_of s code regs device local =
    by_test (launch_test s code regs) (λ (u : Unit {0}). run_from s code (launch_machine s regs device local)) not_launched regs (memories device local)

-- ---- going on
unfoldable pub resume_of : Settings → State → List ℕ → List ℕ → List ℕ → List ℕ → Answered
resume_of s state code regs device local =
    by_test (resume_test s state code regs) (λ (u : Unit {0}). run_from s code (state_machine state regs device local)) state regs (memories device local)
