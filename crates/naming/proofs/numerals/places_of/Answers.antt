-- One more than the logarithm.
use native.Mathlib.Omega.{arith}
use Rattle.texts.proofs.Numbers.{places_few}
use Rattle.naming.proofs.Digits.{log_places}
use Rattle.naming.proofs.numerals.places_of.Goals as goal

pub returns : goal.returns
returns c =
    let e = log_places c.ilog10.result c.args.n c.requires (omega arith) (omega arith) in
    record { value = e; few = omega (arith, places_few 7 6 c.args.n c.requires) }
