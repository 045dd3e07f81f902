-- The recursive check of a level. The room left falls with each call of itself; in the loop, how far the pass has come is `Along`.
use Rattle.std.proofs.Common.{◌-◌, length}
use Rattle.blocks.specs.Code.{code_of}
use Rattle.blocks.proofs.Reaching.{Along}
use Rattle.blocks.proofs.item.Code.+level.Given as goal

-- the room left
abbrev pub decreases-level : goal.decreases-level
decreases-level l = l.room

abbrev pub invariant-loop-at : goal.invariant-loop-at
invariant-loop-at l = Along (code_of l.self.words.now l.self.reading) l.from l.room l.initial.part l.in_loop l.at l.part

abbrev pub decreases-loop-at : goal.decreases-loop-at
decreases-loop-at l = length l.self.words.now - l.at
