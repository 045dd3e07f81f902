-- The room, and then what is put.
use Rattle.records.proofs.Records.{firsts_short, firsts_so}
use Rattle.records.proofs.day.DayFile.firsts.Goals as goal

pub returns-then-out-n : goal.returns-then-out-n
returns-then-out-n c = rw c.broken.ensures (firsts_short _ _ _ c.args.self.now.accepted c.count-n.ensures c.if-out-n.true)

pub returns : goal.returns
returns c = firsts_so _ _ _ c.args.self.now.accepted c.count-n.ensures c.if-out-n.false c.put_firsts.ensures
