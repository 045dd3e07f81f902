-- By the test of the room.
use Rattle.naming.proofs.Whole.{put_room}
use Rattle.naming.proofs.put_whole.Goals as goal

pub returns : goal.returns
returns c = put_room _ _ _ c.if-out-n.false c.put_bytes.ensures
