-- Each block in turn is tested.
use Rattle.std.proofs.Common.{arith, rules, tests, ◌∙◌, ◌+◌, ◌*◌, ℕ}
use Rattle.std.proofs.lemmas.Iterator.{YieldsList-from_range}
use Rattle.std.proofs.lemmas.Iterator.Search.{all_from_yields_List}
use Rattle.formats.proofs.Each.{all_each}
use Rattle.body.specs.Body.{set_bytes}
use Rattle.body.specs.Layout.{block_fits}
use Rattle.body.specs.Places.{block_at}
use Rattle.body.proofs.blocks_fit.Goals as goal

pub returns : goal.returns
returns c =
    let block = block_at set_bytes c.args.bytes.now in
    all_from_yields_List (λ (k : ℕ). block_fits (block (c.args.p + 24 * k))) _ _ _ c.all.ensures.ran
    (YieldsList-from_range 0 c.args.depth c.args.depth (search rules) (omega arith)) (λ x b q k. search (rules, tests))
    ∙ all_each block_fits block 24 c.args.p c.args.depth
