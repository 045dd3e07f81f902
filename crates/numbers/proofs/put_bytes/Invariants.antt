-- The invariant: what is left to put, put where the loop stands, gives the whole result.
use mathlib.Core.Path.{◌≡◌}
use Prim.Native.Nat.{◌+◌}
use lib.ListN.{drop}
use Rattle.numbers.specs.Placed.{placed}
use Rattle.numbers.proofs.put_bytes.Given as goal

abbrev pub invariant-loop-k : goal.invariant-loop-k
invariant-loop-k l = placed l.out (l.start + l.k) (drop l.k l.bytes) ≡ placed l.initial.out l.at l.bytes
