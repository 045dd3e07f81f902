-- The invariant: the lines that are left, put behind, give all.
use native.Mathlib.Omega.{arith}
use Rattle.dayfile.specs.Day.{page}
use Rattle.dayfile.proofs.Lists.{count_bodies}
use Rattle.listing.proofs.Lines.{listed_count, lines_turn, lines_end}
use Rattle.listing.proofs.table.put_lines.Goals as goal

pub loop-k-preserved : goal.loop-k-preserved
loop-k-preserved c =
    lines_turn _ _ c.loop-k.invariant c.loop-k-test.true
    (omega (arith, listed_count _ _ c.args.day.now.accepted c.requires, count_bodies page c.args.day.now.bytes.now)) c.in-Some.ensures c.put_line.ensures

-- no record is missing
pub returns-in_default : goal.returns-in_default
returns-in_default c =
    let none = rw c.in_default.is at c.body.ensures in absurd (omega (arith, none, listed_count _ _ c.args.day.now.accepted c.requires))

pub returns : goal.returns
returns c = lines_end _ _ c.loop-k.invariant c.loop-k-test.false
