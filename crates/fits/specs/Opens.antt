-- When a handed-in state fits, said of the words with no pass over them, and of all the blocks that the state has open: page 01, "Stopping and
-- going on".
use Rattle.std.specs.Prelude.{ℕ, ◌≡◌, ◌⊎◌, List, length}
use Rattle.instructions.specs.declared.instr.Instr.{Instr}
use Rattle.words.specs.Rules.{Stands}
use Rattle.blocks.specs.declared.item.Reading.{Reading}
use Rattle.blocks.specs.Open.{Open}
use Rattle.nesting.specs.Nesting.{Opened}
use Rattle.lanes.specs.declared.said.Block.{Block}
use Rattle.wave.specs.declared.state.Hot.{Hot}
use Rattle.wave.specs.Layout.{opened}
use Rattle.wave.specs.Wave.{Wave, preds_of}
use Rattle.fits.specs.Fits.{Same, SetsFit}

pub record Opens (code : List ℕ) (by : Reading) (place : ℕ) (path : List Block) : Type 0 where
  -- the place is an instruction's first word or the end
  pub first_word : ((x : Instr) × Stands code place x) ⊎ (place ≡ length code)
  -- its open blocks are those the code has open there, in order, with the right half of each IF
  pub room : ℕ
  pub blocks : List Open
  pub opened : Opened code by room blocks place
  pub same : Same path blocks

-- the wave of a state, with every block that the state's depth says
abbrev pub whole_wave : Hot → List Block → Wave
whole_wave h xs = record { place = h.place; active = h.active; halted = h.halted; path = opened xs h.depth }

-- a state fits, with the lanes 0 to n-1 launched
pub record StateFits (code : List ℕ) (by : Reading) (n : ℕ) (h : Hot) (xs : List Block) : Type 0 where
  pub opens : Opens code by h.place (opened xs h.depth)
  pub sets : SetsFit n (whole_wave h xs) (preds_of h)
