-- Where a body starts, the answer is its length.
use Rattle.std.proofs.Common.{refl, sym, ◌∙◌}
use Rattle.body.proofs.Answers.{answer_length}
use Rattle.dayfile.proofs.making.size_at.Goals as goal

pub returns : goal.returns
returns c = let e = c.body_length.ensures ∙ sym (answer_length _ _ _ refl c.requires) in rw e at c.unwrap_or.ensures
