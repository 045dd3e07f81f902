-- The invariant: the numbers that are left, got where the loop stands, give the whole result.
use mathlib.Core.Path.{◌≡◌}
use Prim.Native.Nat.{◌-◌, ◌*◌}
use lib.ListN.{length}
use Rattle.numbers.specs.Numbers.{numbers_at}
use Rattle.numbers.specs.Placed.{placed}
use Rattle.numbers.proofs.get_words.Given as goal

abbrev pub invariant-loop-k : goal.invariant-loop-k
invariant-loop-k l =
    placed l.words l.k (numbers_at l.rest (4 * l.k) (length l.initial.words - l.k)) ≡ numbers_at l.bytes l.at (length l.initial.words)
