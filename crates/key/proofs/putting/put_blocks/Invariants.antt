-- The blocks gone through stand one behind another.
use lib.ListN.{take}
use Rattle.body.specs.Body.{block_format, set_bytes}
use Rattle.key.specs.Putting.{PutAll}
use Rattle.key.proofs.putting.put_blocks.Given as goal

abbrev pub invariant-loop-b : goal.invariant-loop-b
invariant-loop-b l = PutAll (block_format set_bytes) (take l.b-index l.blocks) l.initial.draft l.draft
