-- The invariant: the numbers that are left, got where the loop stands, give the whole result.
use mathlib.Core.Path.{refl, ◌∙◌}
use borrow.Author.Rules.{part_to_end}
use Rattle.numbers.proofs.Words.{get_none, get_on, get_done}
use Rattle.numbers.proofs.get_words.Goals as goal

pub loop-k-init : goal.loop-k-init
loop-k-init c = get_none _ _ _ _ _ c.min-start.ensures (part_to_end c.args.bytes.now _) _ refl

pub loop-k-preserved : goal.loop-k-preserved
loop-k-preserved c = get_on _ _ _ _ _ c.loop-k-test.true c.get.ensures ∙ c.loop-k.invariant

pub returns : goal.returns
returns c = get_done _ _ _ _ _ c.loop-k-test.false ∙ c.loop-k.invariant
