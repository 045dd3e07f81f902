-- The numbers are those that spell the table's lists.
use Rattle.std.proofs.Common.{◌∙◌}
use Rattle.body.specs.Layout.{kind_lists}
use Rattle.body.specs.Spelling.{spelled}
use Rattle.body.proofs.Spelling.{spells_listed}
use Rattle.body.proofs.in_table.Goals as goal

pub returns : goal.returns
unfolding kind_lists spelled
returns c = c.contains.ensures.value ∙ spells_listed kind_lists c.args.kinds
