-- The sum stays below 2^32.
use Prim.Native.Nat.{◌<◌}
use Rattle.day_cases.proofs.sum_of.Given as goal

abbrev pub invariant-loop-byte : goal.invariant-loop-byte
invariant-loop-byte l = l.sum < 4294967296
