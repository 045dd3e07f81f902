-- The invariant: the rows of the bodies that are left, put where the loop stands, give the whole table.
use mathlib.Core.List.{List}
use Prim.Native.Nat.{ℕ}
use Rattle.dayfile.specs.Day.{page}
use Rattle.dayfile.proofs.Filing.{Filling}
use Rattle.dayfile.proofs.making.put_table.Given as goal

abbrev pub invariant-loop-k : goal.invariant-loop-k
invariant-loop-k l = (left : List (List ℕ)) × Filling page l.n l.initial.file l.file l.k l.place left
