-- The executing lanes of an instruction, and going on to the next.
use Rattle.std.specs.Prelude.{ℕ, ◌+◌, ◌%◌, ◌^◌, cond, List, ◌==◌, bit_and}
use Rattle.instructions.specs.declared.instr.Guard.{Guard}
use Rattle.lanes.specs.Sets.{without}
use Rattle.lanes.specs.declared.said.Block.{Block}
use Rattle.wave.specs.Wave.{Wave, Preds}

-- ---- the executing lanes
-- the lanes at which predicate p holds; predicate 0 holds at every active lane
abbrev pub holding : ℕ → ℕ → Preds → ℕ
holding p active ps = cond (p == 1) ps.p1 (cond (p == 2) ps.p2 (cond (p == 3) ps.p3 active))

-- the active ones whose predicate agrees
abbrev pub executing_of : Guard → ℕ → Preds → ℕ
executing_of g active ps =
    cond g.negate (without active (holding g.pred active ps)) (bit_and active (holding g.pred active ps))

-- ---- the place
-- so many words on; a place of code and what follows it are below 2^32, so that it never wraps there
abbrev pub on_by : ℕ → ℕ → ℕ
on_by size place = (place + size) % 2 ^ 32

abbrev pub next : ℕ → ℕ
next place = on_by 1 place

-- the wave at another place, with other active lanes and another path
abbrev pub goes : ℕ → ℕ → List Block → Wave → Wave
goes place active path w = record { place = place; active = active; halted = w.halted; path = path }

-- an instruction of so many words that is no control instruction: on to the next
abbrev pub onward_by : ℕ → Wave → Wave
onward_by size w = goes (on_by size w.place) w.active w.path w
