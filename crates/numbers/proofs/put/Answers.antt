-- The library's four bytes are `bytes_of n`.
use mathlib.Core.Path.{ap, ◌∙◌}
use Rattle.numbers.specs.Placed.{placed}
use Rattle.numbers.proofs.Numerals.{to_four}
use Rattle.numbers.proofs.put.Goals as goal

pub returns : goal.returns
returns c = let a = c.args in c.put_bytes.ensures ∙ ap (placed a.out.now a.at) (c.to_le_bytes.ensures ∙ to_four a.n)
