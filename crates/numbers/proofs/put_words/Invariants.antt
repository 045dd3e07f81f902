-- The invariant: the numbers that are left, put where the loop stands, give the whole result.
use mathlib.Core.Path.{◌≡◌}
use lib.ListN.{length, drop}
use Rattle.numbers.specs.Numbers.{bytes_of_all}
use Rattle.numbers.specs.Placed.{placed}
use Rattle.numbers.proofs.put_words.Given as goal

abbrev pub invariant-loop-word : goal.invariant-loop-word
invariant-loop-word l =
    (length l.out ≡ length l.initial.out)
    × (placed l.out l.q (bytes_of_all (drop l.word-index l.words)) ≡ placed l.initial.out l.at (bytes_of_all l.words))
