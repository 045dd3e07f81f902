-- Reading at a place where some word stands: a missing second word, and the fields, by the steps of ReadSteps.
use Rattle.std.specs.Prelude.{Err}
use mathlib.Core.Path.{sym, ap, ◌∙◌}
use Rattle.words.proofs.ReadSteps.{short, whole}
use Rattle.words.proofs.reading.read_at.Goals as goal

pub returns-then-words-at-2 : goal.returns-then-words-at-2
returns-then-words-at-2 c =
    ap Err c.broken-then-words-at-2.ensures
    ∙ sym (short _ _ c.if-words-at.false c.op_of.ensures c.in-Some.is c.limits_of-limits.ensures c.size_of.ensures c.if-words-at-2.true)

pub returns : goal.returns
returns c =
    c.read_fields.ensures
    ∙ sym
    (whole _ _ c.if-words-at.false c.op_of.ensures c.in-Some.is c.limits_of-limits.ensures c.size_of.ensures _ c.word_at-word.ensures
    c.if-words-at-2.false)
