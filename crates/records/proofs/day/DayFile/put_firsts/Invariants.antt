-- The invariant: the records that are left, put where the loop stands, give the whole list.
use mathlib.Core.Path.{◌≡◌}
use lib.ListN.{drop}
use Rattle.numbers.specs.Placed.{placed}
use Rattle.dayfile.specs.Day.{page, bodies_of}
use Rattle.records.specs.Read.{firsts_of}
use Rattle.records.proofs.day.DayFile.put_firsts.Given as goal

abbrev pub invariant-loop-k : goal.invariant-loop-k
invariant-loop-k l = let fs = firsts_of (bodies_of page l.self.bytes.now) in placed l.out l.k (drop l.k fs) ≡ placed l.initial.out 0 fs
