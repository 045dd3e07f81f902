-- The count is the file's first number.
use Rattle.dayfile.specs.Day.{count_of}
use Rattle.records.proofs.day.DayFile.count.Goals as goal

pub returns : goal.returns
unfolding count_of
returns c = c.get.ensures
