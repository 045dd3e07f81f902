-- The number behind the word.
use Rattle.listing.proofs.Putting.{wrote_join}
use Rattle.listing.proofs.put_refusal.Goals as goal

pub returns : goal.returns
returns c = wrote_join c.put.ensures c.put_field.ensures
