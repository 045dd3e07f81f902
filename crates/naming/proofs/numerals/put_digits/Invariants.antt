-- The digits that are left to find, before those found, are all.
use mathlib.Core.Path.{◌≡◌}
use mathlib.Core.List.{◌++◌}
use lib.ListN.{length, drop}
use Rattle.texts.specs.Numerals.{digits}
use Rattle.naming.proofs.numerals.put_digits.Given as goal

abbrev pub invariant-loop-i : goal.invariant-loop-i
invariant-loop-i g l = digits g.row.BASE l.i l.left ++ drop l.i l.out ≡ digits g.row.BASE (length l.initial.out) l.n
