-- By whether a file has these words, and whether it fits the buffer.
use mathlib.Core.Path.{sym, refl, ◌∙◌}
use Rattle.captures.proofs.Laid.{fits_small, total_so, write_not, write_short, write_so}
use Rattle.captures.proofs.writing.write.Goals as goal

pub returns-then-not-fits : goal.returns-then-not-fits
returns-then-not-fits c = rw c.broken.ensures (write_not _ _ (sym c.fits.ensures ∙ c.if-not-fits.true))

pub counts-n-requires : goal.counts-n-requires
counts-n-requires c = fits_small _ (sym c.fits.ensures ∙ c.if-not-fits.false)

pub returns-then-file-total : goal.returns-then-file-total
returns-then-file-total c =
    rw c.broken-then-file-total.ensures
    (write_short _ _ _ (sym c.fits.ensures ∙ c.if-not-fits.false) (total_so _ _ _ _ refl c.end_of-total.ensures.end c.counts-n.ensures)
    c.if-file-total.true)

pub returns : goal.returns
returns c =
    write_so _ _ _ _ (sym c.fits.ensures ∙ c.if-not-fits.false) (total_so _ _ _ _ refl c.end_of-total.ensures.end c.counts-n.ensures)
    c.if-file-total.false c.give_parts.ensures
