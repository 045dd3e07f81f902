-- The wave that was laid out is the wave that is read next, where its path has at most 32 blocks.
use Rattle.std.proofs.Common.{◌≡◌, ◌≤◌, min, List, length, arith}
use native.Mathlib.Nat.{min-le_right, min-eq_left}
use Rattle.lanes.specs.Blocks.{nesting}
use Rattle.lanes.specs.declared.said.Block.{Block}
use Rattle.wave.specs.declared.state.Hot.{Hot}
use Rattle.wave.specs.Layout.{over}
use Rattle.wave.specs.Wave.{Wave, Preds, hot_of, wave_of, state_of, wave_in}
use Rattle.wave.proofs.Laying.{length-opened, opened_laid}

pub view : (w : Wave) (ps : Preds) (xs : List Block) → length w.path ≤ nesting → wave_of (hot_of w ps) (over w.path xs) ≡ w
view w ps xs h = let e : min (length w.path) nesting ≡ length w.path = min-eq_left h in rw (e, opened_laid w.path)

-- the wave of the state that holds it
pub wave_in_lem : (w : Wave) (ps : Preds) → length w.path ≤ nesting → wave_in (state_of w ps) ≡ w
wave_in_lem w ps h = let e : min (length w.path) nesting ≡ length w.path = min-eq_left h in rw (e, opened_laid w.path)

-- the path that is read has at most 32 blocks
pub roomy : (h : Hot) (xs : List Block) → length (wave_of h xs).path ≤ nesting
roomy h xs = omega (arith, length-opened xs (min h.depth nesting), min-le_right h.depth nesting)
