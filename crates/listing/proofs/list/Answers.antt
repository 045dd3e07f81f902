-- Every text has room.
use native.Mathlib.Omega.{arith}
use Rattle.std.proofs.Common.{rules}
use Rattle.listing.proofs.Texts.{text_room_lem}
use Rattle.listing.proofs.list.Goals as goal

pub returns : goal.returns
returns c = search (rules, c.put_text.ensures.puts (omega (arith, text_room_lem c.args.file.now)))
