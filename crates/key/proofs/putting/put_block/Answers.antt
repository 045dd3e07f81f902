-- The six numbers are the block.
use Rattle.key.proofs.Numbers.{block_put}
use Rattle.key.proofs.putting.put_block.Goals as goal

pub returns : goal.returns
returns c = block_put c.args.b c.put.ensures c.put-2.ensures c.put-3.ensures c.put-4.ensures c.put-5.ensures c.put-6.ensures
