-- The four bytes that are read are those of `number_at`, which past the end are 0.
use mathlib.Core.Path.{sym, ◌∙◌}
use borrow.Author.Rules.{part_to_end}
use Rattle.numbers.proofs.Numerals.{number_out, number_part, from_four}
use Rattle.numbers.proofs.get.Goals as goal

pub returns-then-bytes-at : goal.returns-then-bytes-at
returns-then-bytes-at c = sym (number_out _ _ c.if-bytes-at.true)

pub returns : goal.returns
returns c =
    let a = c.args in
    let rest = part_to_end a.bytes.now a.at in
    c.from_le_bytes.ensures
    ∙ from_four c.byte.result c.byte-2.result c.byte-3.result c.byte-4.result
    ∙ number_part _ _ _ _ _ _ _ rest c.byte.ensures c.byte-2.ensures c.byte-3.ensures c.byte-4.ensures
