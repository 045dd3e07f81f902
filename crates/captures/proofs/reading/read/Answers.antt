-- By the verdict: the first broken rule, or the words taken.
use Rattle.std.proofs.Common.{◌≡◌, ◌∙◌, arith, sym}
use Rattle.std.proofs.lemmas.Grind.{common_steps}
use Rattle.std.specs.Prelude.{Err}
use Rattle.captures.proofs.Accepted.{taken, read_broken, read_fine}
use Rattle.captures.proofs.reading.read.Goals as goal

pub returns-in_err-verdict_of : goal.returns-in_err-verdict_of
returns-in_err-verdict_of c =
    let e : c.from_residual.result ≡ Err c.in_err-verdict_of.field-0.0 = grind (arith, common_steps) in
    rw e (read_broken _ _ _ (sym c.in_err-verdict_of.was ∙ c.verdict_of.ensures))

pub returns : goal.returns
returns c =
    read_fine _ _ _ _ _ (sym c.in_ok-verdict_of.was ∙ c.verdict_of.ensures) (taken _ _ _ _ _ _ _ c.counts_of-counts.ensures _ c.places_of-at.ensures _ _ _ _ _ c.take_part.ensures c.take_part-2.ensures
    c.take_part-3.ensures c.take_part-4.ensures c.take_part-5.ensures)
    c.head_of-head.ensures c.counts_of-counts.ensures
