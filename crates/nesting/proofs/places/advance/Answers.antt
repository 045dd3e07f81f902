-- One instruction of the walk: each turn is a law of `Advances`.
use Rattle.std.proofs.Common.{◌≡◌, ◌<◌, ℕ, List, Option, length, sym, arith}
use Rattle.blocks.specs.declared.item.Code.{Code}
use Rattle.blocks.specs.declared.rules.Part.{Part}
use Rattle.blocks.specs.Code.{code_of}
use Rattle.blocks.specs.Open.{Open, innermost}
use Rattle.blocks.proofs.Widths.{code_fits}
use Rattle.blocks.proofs.Judging.{turned}
use Rattle.nesting.specs.declared.places.Stack.{Stack}
use Rattle.nesting.specs.Stacks.{Holds}
use Rattle.nesting.proofs.Advances.{Ready, stopped, unseen, on, on_ok, close, enter, enter_ok, stop}
use Rattle.nesting.proofs.places.advance.Goals as goal

-- where an instruction is judged
ready : (code : Code) {at : ℕ} {s : Stack} {part : Option Part} → at < length code.words.now
    → ((o : List Open) → Holds s o → part ≡ innermost o) → Ready (code_of code.words.now code.reading) at s part
ready code h inside = record { fits = code_fits code.words.now code.reading; in_code = h; inside = inside }

pub returns-then-code-at : goal.returns-then-code-at
returns-then-code-at c = λ o h. stopped (code_of c.args.code.now.words.now c.args.code.now.reading) o _ c.if-code-at.true

pub returns-in_default : goal.returns-in_default
returns-in_default c = λ o h. unseen (code_of c.args.code.now.words.now c.args.code.now.reading) o _ c.if-code-at.false (sym c.in_default.ensures)

pub returns-in-Err : goal.returns-in-Err
returns-in-Err c =
    stop (ready c.args.code.now c.if-code-at.false c.inner.ensures) (sym c.in-Ok.ensures) (sym c.in-Err.ensures)

pub overflow_add-result : goal.overflow_add-result
overflow_add-result c =
    omega (arith, on_ok (ready c.args.code.now c.if-code-at.false c.inner.ensures) (sym c.in-Ok.ensures) (turned c.in-Ok-Go.ensures c.in-Ok-Go.field-0-is))

pub returns-in-Ok-Go : goal.returns-in-Ok-Go
returns-in-Ok-Go c =
    on (ready c.args.code.now c.if-code-at.false c.inner.ensures) (sym c.in-Ok.ensures) _ (turned c.in-Ok-Go.ensures c.in-Ok-Go.field-0-is) c.turn_to.ensures

pub returns-in-Ok-Close : goal.returns-in-Ok-Close
returns-in-Ok-Close c =
    close (ready c.args.code.now c.if-code-at.false c.inner.ensures) (sym c.in-Ok.ensures) _ (turned c.in-Ok-Close.ensures c.in-Ok-Close.field-0-is) c.pop.ensures

pub push-requires : goal.push-requires
push-requires c =
    enter_ok (ready c.args.code.now c.if-code-at.false c.inner.ensures) (sym c.in-Ok.ensures) (turned c.in-Ok-Enter.ensures c.in-Ok-Enter.field-0-is)
    c.requires.0 c.requires.1

pub returns-in-Ok-Enter : goal.returns-in-Ok-Enter
returns-in-Ok-Enter c =
    enter (ready c.args.code.now c.if-code-at.false c.inner.ensures) (sym c.in-Ok.ensures) _ (turned c.in-Ok-Enter.ensures c.in-Ok-Enter.field-0-is) c.push.ensures
