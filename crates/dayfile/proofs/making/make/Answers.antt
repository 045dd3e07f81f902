-- By what the survey came to.
use Rattle.std.proofs.Common.{sym, ◌∙◌}
use Rattle.std.proofs.lemmas.Result.{err_from_is_err_and}
use Rattle.dayfile.proofs.Layouts.{page_lawful}
use Rattle.dayfile.proofs.Surveys.{good_lying}
use Rattle.dayfile.proofs.Filing.{make_so, make_not}
use Rattle.dayfile.proofs.making.make.Goals as goal

pub returns-in_err-n : goal.returns-in_err-n
returns-in_err-n c =
    let p = err_from_is_err_and c.from_residual.result c.from_residual.ensures.1 in
    rw (p.1, p.2) (make_not _ _ _ _ c.in_err-n.ensures)

pub make_good-requires : goal.make_good-requires
make_good-requires c = good_lying page_lawful _ _ (sym c.in_ok-n.ensures)

pub returns : goal.returns
returns c = c.make_good.ensures ∙ make_so _ _ _ _ c.in_ok-n.ensures
