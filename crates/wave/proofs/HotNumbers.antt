-- The hot numbers of a wave that goes on.
use Rattle.std.proofs.Common.{◌≡◌, ℕ, min, List}
use Rattle.lanes.specs.Blocks.{nesting}
use Rattle.lanes.specs.declared.said.Block.{Block}
use Rattle.wave.specs.declared.state.Hot.{Hot}
use Rattle.wave.specs.Wave.{wave_of, preds_of, hot_of}
use Rattle.wave.specs.Going.{on_by, onward_by}
use Rattle.wave.proofs.Laying.{length-opened}

-- the hot numbers at another place, with other active lanes and another depth
abbrev pub hot_at : Hot → ℕ → ℕ → ℕ → Hot
hot_at h p a d =
    record { place = p; active = a; halted = h.halted; p1 = h.p1; p2 = h.p2; p3 = h.p3; depth = d }

pub onward_hot : (h : Hot) (size p d : ℕ) (xs : List Block) → p ≡ on_by size h.place → d ≡ min h.depth nesting
    → hot_at h p h.active d ≡ hot_of (onward_by size (wave_of h xs)) (preds_of h)
onward_hot h size p d xs e f = rw (e, f, length-opened xs (min h.depth nesting))
