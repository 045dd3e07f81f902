-- The invariant: the numbers that are left, put where the loop stands, give the whole result.
use mathlib.Core.Path.{sym, ◌∙◌}
use Rattle.numbers.proofs.Placing.{placed_out}
use Rattle.numbers.proofs.Numerals.{small_words}
use Rattle.numbers.proofs.Words.{put_on, put_done}
use Rattle.numbers.proofs.put_words.Goals as goal

pub returns-then-out-q : goal.returns-then-out-q
returns-then-out-q c = (sym (placed_out _ _ _ c.if-out-q.true) ∙ c.loop-word.invariant.1, small_words c.type_inv.words)

pub loop-word-preserved : goal.loop-word-preserved
loop-word-preserved c =
    let l = c.loop-word in
    (c.put.auto.out ∙ l.invariant.0, put_on _ _ _ _ _ c.loop-word-test.true c.put.ensures ∙ l.invariant.1)

pub returns : goal.returns
returns c = (put_done _ _ _ _ c.loop-word-test.false ∙ c.loop-word.invariant.1, small_words c.type_inv.words)
