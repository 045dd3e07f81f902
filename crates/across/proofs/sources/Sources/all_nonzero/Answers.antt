-- `across::sources::Sources::all_nonzero` meets its contract: the executing lanes that are left are those whose number is 0.
use mathlib.Core.Path.{ap, ◌∙◌}
use lib.Bits.{bit_and}
use Rattle.across.proofs.Voting.{all_told}
use Rattle.across.proofs.sources.Sources.all_nonzero.Goals as goal

pub returns : goal.returns
returns c =
    let a = c.args.self.now in
    all_told a.width.lanes a.t _ _ _ _ _ a.width.narrow (c.meet-every.ensures ∙ ap (bit_and a.t) c.first.ensures)
    c.nonzero_lanes-told.ensures c.without.ensures c.from.ensures
