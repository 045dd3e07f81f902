-- The invariant: the first equal record is not among those passed, so it is the first among the rest.
use Rattle.std.proofs.Common.{arith}
use Rattle.dayfile.specs.Day.{page}
use Rattle.dayfile.proofs.Layouts.{page_lawful}
use Rattle.dayfile.proofs.Lists.{count_bodies}
use Rattle.records.proofs.Records.{compared, file_room, seeking_start, seeking_end, seeking_here, seeking_turn}
use Rattle.records.proofs.day.DayFile.first_same.Goals as goal

pub loop-k-init : goal.loop-k-init
loop-k-init c = seeking_start

pub returns-then-same_bytes : goal.returns-then-same_bytes
returns-then-same_bytes c =
    seeking_here c.loop-k.invariant (compared c.same_bytes.ensures c.body_at-earlier.ensures c.body_at-body.ensures c.if-same_bytes.true)
    (omega (arith, count_bodies page c.args.self.now.bytes.now))

pub loop-k-preserved : goal.loop-k-preserved
loop-k-preserved c =
    seeking_turn c.loop-k.invariant (compared c.same_bytes.ensures c.body_at-earlier.ensures c.body_at-body.ensures c.if-same_bytes.false) c.loop-k-test.true
    (omega (arith, count_bodies page c.args.self.now.bytes.now))

pub overflow_add-result-2 : goal.overflow_add-result-2
overflow_add-result-2 c = omega (arith, file_room page_lawful _ c.args.self.now.accepted, c.requires)

pub returns : goal.returns
returns c = seeking_end c.loop-k.invariant c.loop-k-test.false (omega (arith, count_bodies page c.args.self.now.bytes.now))
