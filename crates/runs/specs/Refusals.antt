-- When a call is refused: page 01's table of refusals, 1 to 11, each with its place and the rule that is broken. A line asks that the rules
-- of the lines before it are kept.
use Rattle.std.specs.Prelude.{ℕ, ◌*◌, ◌≤◌, ◌<◌, ◌≡◌, ◌⊎◌, List, length}
use Rattle.refusals.specs.declared.Refusal.{Refusal}
use Rattle.refusals.specs.declared.Rule.{Rule}
use Rattle.refusals.specs.Table.{broken}
use Rattle.nesting.specs.Nesting.{Nested, Broken}
use Rattle.wave.specs.declared.state.State.{State}
use Rattle.fits.specs.Opens.{StateFits}
use Rattle.stepping.specs.declared.settings.Settings.{Settings}
use Rattle.replay.specs.Replay.{most_registers, most_steps, most_words, reading_of}

-- the settings that are allowed
pub record Allowed (s : Settings) : Type 0 where
  pub width : (s.width ≡ 8) ⊎ ((s.width ≡ 16) ⊎ (s.width ≡ 32))
  pub registers : (1 ≤ s.registers) × (s.registers ≤ most_registers)
  pub lanes : (1 ≤ s.lanes) × (s.lanes ≤ s.width)
  pub budget : s.budget ≤ most_steps

-- allowed settings, and code and a register buffer of an allowed length
pub record Bounded (s : Settings) (code regs : List ℕ) : Type 0 where
  pub allowed : Allowed s
  pub short : length code ≤ most_words
  pub buffer : length regs ≡ s.width * s.registers

-- 1 a setting, 2 code too long, 3 register buffer length
pub data BoundsBreak (s : Settings) (code regs : List ℕ) : Refusal → Type 0 where
  setting : (Allowed s → ⊥) → BoundsBreak s code regs (broken Rule.Setting 0)
  code_length : Allowed s → most_words < length code → BoundsBreak s code regs (broken Rule.LongCode 0)
  buffer_length : Allowed s → length code ≤ most_words → (length regs ≡ s.width * s.registers → ⊥)
      → BoundsBreak s code regs (broken Rule.Buffer 0)

-- a launch: then 4 to 10, in the code
pub data LaunchBreaks (s : Settings) (code regs : List ℕ) : Refusal → Type 0 where
  in_bounds : {r : Refusal} → BoundsBreak s code regs r → LaunchBreaks s code regs r
  in_code : {r : Refusal} → Bounded s code regs → Broken code (reading_of s) r → LaunchBreaks s code regs r

-- going on from a state: then 11, the state doesn't fit
pub data ResumeBreaks (s : Settings) (state : State) (code regs : List ℕ) : Refusal → Type 0 where
  in_launch : {r : Refusal} → LaunchBreaks s code regs r → ResumeBreaks s state code regs r
  in_state : Bounded s code regs → Nested code (reading_of s)
      → (StateFits code (reading_of s) s.lanes state.hot state.blocks → ⊥) → ResumeBreaks s state code regs (broken Rule.State 0)
