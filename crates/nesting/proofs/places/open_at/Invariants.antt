-- The walk of `open_at`: the loop has come to a place with the blocks open that its stack holds (`Walked`).
use Prim.Native.Nat.{◌-◌}
use Rattle.blocks.specs.Code.{code_of}
use Rattle.nesting.proofs.Walks.{Walked}
use Rattle.nesting.proofs.places.open_at.Given as goal

abbrev pub invariant-loop-at : goal.invariant-loop-at
invariant-loop-at l = Walked (code_of l.code.words.now l.code.reading) l.place l.stack l.at

abbrev pub decreases-loop-at : goal.decreases-loop-at
decreases-loop-at l = l.place - l.at
