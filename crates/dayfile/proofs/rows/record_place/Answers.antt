-- The place is what the row at the table's end of those before it begins with.
use mathlib.Core.Path.{ap, ◌∙◌}
use Rattle.numbers.specs.Numbers.{number_at}
use Rattle.dayfile.proofs.rows.record_place.Goals as goal

pub returns : goal.returns
returns c = c.get.ensures ∙ ap (number_at _) c.table_end.ensures
