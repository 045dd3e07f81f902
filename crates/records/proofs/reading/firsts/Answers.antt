-- The file's tests, and then the records of the accepted file.
use Rattle.std.proofs.Common.{ap, ◌∙◌, List, ℕ}
use Rattle.std.proofs.lemmas.Result.{err_from_is_err_and}
use Rattle.dayfile.specs.Day.{page}
use Rattle.records.specs.Read.{firsts_in}
use Rattle.records.proofs.Records.{firsts_refused}
use Rattle.records.proofs.reading.firsts.Goals as goal

pub returns-in_err-day : goal.returns-in_err-day
returns-in_err-day c =
    let p = err_from_is_err_and c.from_residual.result c.from_residual.ensures.1 in rw (p.1, p.2) (firsts_refused _ _ _ _ c.in_err-day.ensures)

pub returns : goal.returns
returns c = c.firsts.ensures ∙ ap (λ (f : List ℕ). firsts_in page f c.args.out.now) c.in_ok-day.ensures
