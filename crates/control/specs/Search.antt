-- A step of the proofs: nothing that is said to the reader rests on this file.
-- The outward search: the innermost open loop by its number among the open blocks, counted from the outermost; and the hot numbers once
-- lanes are set aside.
use Rattle.std.specs.Prelude.{ℕ, min, cond, List, [], ◌∷◌, length, Option, Some, None}
use Rattle.lanes.specs.Blocks.{nesting}
use Rattle.lanes.specs.Sets.{without}
use Rattle.lanes.specs.declared.said.Block.{Block}
use Rattle.wave.specs.declared.state.Hot.{Hot}
use Rattle.wave.specs.Layout.{is_loop}
use Rattle.wave.specs.Going.{next}

-- none where no loop is open
abbrev pub loop_at : List Block → Option ℕ
loop_at [] = None
loop_at (b ∷ bs) = cond (is_loop b) (Some (length bs)) (loop_at bs)

-- the search itself does not change the loop
abbrev pub same : Block → Block
same b = b

-- the hot numbers at the next place, where the lanes t are no longer active
abbrev pub less : ℕ → Hot → Hot
less t h =
    record {
      place = next h.place;
      active = without h.active t;
      halted = h.halted;
      p1 = h.p1;
      p2 = h.p2;
      p3 = h.p3;
      depth = min h.depth nesting;
    }
