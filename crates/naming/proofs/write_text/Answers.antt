-- What the line holds is the text.
use mathlib.Core.Path.{sym, ◌∙◌}
use native.Mathlib.Omega.{arith}
use Rattle.naming.proofs.Whole.{put_text}
use Rattle.naming.proofs.write_text.Goals as goal

pub returns : goal.returns
returns c =
    let ok = sym c.is_valid.ensures ∙ c.if-not-is_valid.false in
    let adds = rw c.new-line.ensures at (rw (← c.as_bytes.ensures.text) at c.put_line.ensures) in
    put_text c.args.instr _ ok (omega arith) c.as_bytes.ensures.few adds c.put_whole.ensures
