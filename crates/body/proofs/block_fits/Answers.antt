-- The numbers that are read are the block's.
use Rattle.body.proofs.Reading.{block_read}
use Rattle.body.proofs.block_fits.Goals as goal

pub returns : goal.returns
returns c = block_read _ _ _ _ _ c.get-part.ensures c.get-opener.ensures c.get-again.ensures
