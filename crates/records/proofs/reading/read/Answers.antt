-- The file's tests, and then the record of the accepted file.
use Rattle.std.proofs.Common.{ap, ◌∙◌, List, ℕ}
use Rattle.std.proofs.lemmas.Result.{err_from_is_err_and}
use Rattle.dayfile.specs.Day.{page}
use Rattle.records.specs.Read.{read_answer}
use Rattle.records.proofs.Records.{read_refused}
use Rattle.records.proofs.reading.read.Goals as goal

pub returns-in_err-day : goal.returns-in_err-day
returns-in_err-day c =
    let p = err_from_is_err_and c.from_residual.result c.from_residual.ensures.1 in rw (p.1, p.2) (read_refused _ _ _ _ c.in_err-day.ensures)

pub returns : goal.returns
returns c = c.record.ensures ∙ ap (λ (f : List ℕ). read_answer page f c.args.i) c.in_ok-day.ensures
