-- The recursive check of a level: each turn of its loop is a law of `Reaching`.
use Rattle.std.proofs.Common.{◌<◌, ℕ, Bool, Option, length, sym, arith}
use Rattle.blocks.specs.declared.item.Code.{Code}
use Rattle.blocks.specs.declared.rules.Part.{Part}
use Rattle.blocks.specs.Code.{code_of}
use Rattle.blocks.proofs.Widths.{code_fits}
use Rattle.blocks.proofs.Judging.{turned}
use Rattle.blocks.proofs.Refusing.{handed_on}
use Rattle.blocks.proofs.Reaching.{Along, Here, unseen, on, on_ok, close as closes, stop, inner_on, inner_stop, inner_end, at_the_end}
use Rattle.blocks.proofs.item.Code.+level.Goals as goal

-- in a turn of the loop
here : (code : Code) {from room : ℕ} {inside : Option Part} {l : Bool} {at : ℕ} {part : Option Part} → at < length code.words.now
    → Along (code_of code.words.now code.reading) from room inside l at part → Here (code_of code.words.now code.reading) from room inside l at part
here code h along = record { fits = code_fits code.words.now code.reading; in_code = h; along = along }

pub returns-in_err-item : goal.returns-in_err-item
returns-in_err-item t c =
    rw (handed_on _ c.from_residual.ensures.1)
    (unseen (here c.args.self.now c.loop-at-test.true c.loop-at.invariant) (sym c.in_err-item.ensures))

pub returns-in_err-width : goal.returns-in_err-width
returns-in_err-width t c =
    rw (handed_on _ c.from_residual-in_err-width.ensures.1)
    (stop (here c.args.self.now c.loop-at-test.true c.loop-at.invariant) (sym c.in_ok-item.ensures) (sym c.in_err-width.ensures))

pub overflow_add-at : goal.overflow_add-at
overflow_add-at t c =
    omega (arith, on_ok (here c.args.self.now c.loop-at-test.true c.loop-at.invariant) (sym c.in_ok-item.ensures) (turned c.in_ok-width.ensures c.in-Go.is))

pub loop-at-smaller-in-Go : goal.loop-at-smaller-in-Go
loop-at-smaller-in-Go t c =
    omega (arith, on_ok (here c.args.self.now c.loop-at-test.true c.loop-at.invariant) (sym c.in_ok-item.ensures) (turned c.in_ok-width.ensures c.in-Go.is))

pub loop-at-preserved-in-Go : goal.loop-at-preserved-in-Go
loop-at-preserved-in-Go t c =
    on (here c.args.self.now c.loop-at-test.true c.loop-at.invariant) (sym c.in_ok-item.ensures) (turned c.in_ok-width.ensures c.in-Go.is)

pub returns-in-Close : goal.returns-in-Close
returns-in-Close t c =
    closes (here c.args.self.now c.loop-at-test.true c.loop-at.invariant) (sym c.in_ok-item.ensures) (turned c.in_ok-width.ensures c.in-Close.is)

pub loop-at-preserved : goal.loop-at-preserved
loop-at-preserved t c =
    inner_on (here c.args.self.now c.loop-at-test.true c.loop-at.invariant) (sym c.in_ok-item.ensures) (turned c.in_ok-width.ensures c.in-Enter.is)
    (rw c.in-Some.is at c.in_ok-next-in-Enter.ensures)

pub returns-in_err-next-in-Enter : goal.returns-in_err-next-in-Enter
returns-in_err-next-in-Enter t c =
    rw (handed_on _ c.from_residual-in_err-next-in-Enter.ensures.1)
    (inner_stop (here c.args.self.now c.loop-at-test.true c.loop-at.invariant) (sym c.in_ok-item.ensures) (turned c.in_ok-width.ensures c.in-Enter.is)
    c.in_err-next-in-Enter.ensures)

pub returns-in-None : goal.returns-in-None
returns-in-None t c =
    rw c.broken.ensures
    (inner_end (here c.args.self.now c.loop-at-test.true c.loop-at.invariant) (sym c.in_ok-item.ensures) (turned c.in_ok-width.ensures c.in-Enter.is)
    (rw c.in-None.is at c.in_ok-next-in-Enter.ensures))

pub returns : goal.returns
returns t c =
    at_the_end (code_fits c.args.self.now.words.now c.args.self.now.reading) c.loop-at.invariant c.loop-at-test.false
