-- The outward search. The invariant: from here it finds the same loop and marks the same blocks as from the innermost block.
use Rattle.std.proofs.Common.{◌≡◌, ◌≤◌, length}
use Rattle.lanes.specs.Blocks.{nesting}
use Rattle.wave.specs.Layout.{opened}
use Rattle.control.specs.Rules.{to_loop}
use Rattle.control.specs.Search.{loop_at, same}
use Rattle.control.proofs.Walks.{walked}
use Rattle.control.proofs.rules.aside.leave_inner.Given as goal

abbrev pub invariant-loop-i : goal.invariant-loop-i
invariant-loop-i l =
    (l.i ≤ nesting)
    × (length l.blocks ≡ nesting)
    × (loop_at (opened l.blocks l.i) ≡ loop_at (opened l.initial.blocks l.initial.i))
    × (walked (to_loop same l.t) l.i l.blocks ≡ walked (to_loop same l.t) l.initial.i l.initial.blocks)

abbrev pub decreases-loop-i : goal.decreases-loop-i
decreases-loop-i l = l.i
