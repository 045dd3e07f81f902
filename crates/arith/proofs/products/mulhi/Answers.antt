-- `arith::products::mulhi` meets its contract: the high half of the product of what was read fits.
use Rattle.std.proofs.Common.{◌∙◌}
use Rattle.arith.proofs.HighHalf.{half}
use Rattle.arith.proofs.products.mulhi.Goals as goal

pub returns : goal.returns
returns c =
    c.to_register.ensures
    ∙ half (record { fits = c.ranges.a; is = c.wide-x.ensures }) (record { fits = c.ranges.b; is = c.wide-y.ensures })
