-- The tests are those of `starts_body` in another order, of the part from `at` on.
use native.Mathlib.Omega.{arith}
use Rattle.body.proofs.Answers.{answer_out, fits_room, answer_unfit, answer_blocks, answer_body}
use Rattle.body.proofs.body_length.Goals as goal

pub returns-then-bytes-at : goal.returns-then-bytes-at
returns-then-bytes-at c = rw c.broken.ensures (answer_out _ _ (omega arith))

pub returns-then-not-fits : goal.returns-then-not-fits
returns-then-not-fits c =
    rw c.broken-then-not-fits.ensures
    (answer_unfit c.args.bytes.now c.args.at c.count.ensures c.depth-blocks.ensures c.place.ensures c.faults_fit.ensures c.if-not-fits.true)

pub blocks_fit-requires : goal.blocks_fit-requires
blocks_fit-requires c = fits_room c.args.bytes.now c.args.at c.count.ensures c.depth-blocks.ensures c.place.ensures c.faults_fit.ensures c.if-not-fits.false

pub returns-then-not-blocks_fit : goal.returns-then-not-blocks_fit
returns-then-not-blocks_fit c =
    rw c.broken-then-not-blocks_fit.ensures
    (answer_blocks _ _ c.count.ensures c.depth-blocks.ensures c.place.ensures c.faults_fit.ensures _ c.blocks_fit.ensures c.if-not-fits.false
    c.if-not-blocks_fit.true)

pub returns : goal.returns
returns c =
    answer_body _ _ c.count.ensures c.depth-blocks.ensures c.place.ensures c.faults_fit.ensures _ c.blocks_fit.ensures c.if-not-fits.false
    c.if-not-blocks_fit.false
