-- The invariant: the records that are left, put where the loop stands, give the whole list.
use Rattle.std.proofs.Common.{◌∙◌, arith, get_or, []}
use Rattle.dayfile.specs.Day.{page, bodies_of}
use Rattle.dayfile.proofs.Layouts.{page_lawful}
use Rattle.dayfile.proofs.Lists.{count_bodies}
use Rattle.records.proofs.Records.{file_room, first_small, firsts_turn, firsts_end, firsts_whole}
use Rattle.records.proofs.day.DayFile.put_firsts.Goals as goal

pub overflow_cast-first : goal.overflow_cast-first
overflow_cast-first c =
    let f = c.args.self.now.bytes.now in
    omega (
      arith,
      c.first_same.ensures,
      first_small (get_or (bodies_of page f) c.loop-k.k []) (bodies_of page f),
      count_bodies page f,
      file_room page_lawful f c.args.self.now.accepted,
    )

pub loop-k-preserved : goal.loop-k-preserved
loop-k-preserved c =
    firsts_turn _ _ _ _ (omega (arith, count_bodies page c.args.self.now.bytes.now)) c.first_same.ensures ∙ c.loop-k.invariant

pub returns : goal.returns
returns c =
    let n = count_bodies page c.args.self.now.bytes.now in
    firsts_end _ _ _ (omega arith) ∙ c.loop-k.invariant ∙ firsts_whole _ _ (omega arith)
