-- The invariant: the survey of what is left, from where the loop stands, is the survey of all.
use Rattle.std.proofs.Common.{ap, ◌∙◌, arith, Ok}
use Rattle.std.proofs.lemmas.Result.{err_from_is_err_and}
use Rattle.body.proofs.Answers.{length_says, refused_is, refused_says}
use Rattle.dayfile.proofs.Layouts.{page_lawful}
use Rattle.dayfile.proofs.Surveys.{surveying_start, surveying_end, surveying_many, surveying_bad, surveying_turn}
use Rattle.dayfile.proofs.making.survey_of.Goals as goal

pub loop-n-init : goal.loop-n-init
loop-n-init c = surveying_start

pub returns-then-at-bodies : goal.returns-then-at-bodies
returns-then-at-bodies c = surveying_end c.loop-n.invariant (omega arith)

pub returns-in_err-at : goal.returns-in_err-at
returns-in_err-at c =
    let e = c.in_err-at.ensures in
    let p = err_from_is_err_and c.from_residual.result c.from_residual.ensures.1 in
    rw (p.1, p.2) (refused_is _ _ _ e ∙ surveying_bad page_lawful c.loop-n.invariant (omega arith) c.loop-n-test.true (refused_says _ _ _ e))

pub overflow_add-at : goal.overflow_add-at
overflow_add-at c =
    let a = length_says _ _ _ c.in_ok-at.ensures in
    omega (arith, (surveying_turn page_lawful c.loop-n.invariant (omega arith) c.loop-n-test.true a.0 a.1).within)

pub loop-n-preserved : goal.loop-n-preserved
loop-n-preserved c =
    let a = length_says _ _ _ c.in_ok-at.ensures in
    surveying_turn page_lawful c.loop-n.invariant (omega arith) c.loop-n-test.true a.0 a.1

pub returns-then-at-bodies-2 : goal.returns-then-at-bodies-2
returns-then-at-bodies-2 c =
    rw c.broken.ensures (surveying_many page_lawful c.loop-n.invariant c.if-at-bodies-2.true c.loop-n-test.false)

pub returns : goal.returns
returns c = ap Ok (omega arith) ∙ surveying_end c.loop-n.invariant (omega arith)
