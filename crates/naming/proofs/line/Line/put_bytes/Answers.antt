-- One byte more, if it fits.
use mathlib.Core.Path.{◌∙◌}
use native.Mathlib.Omega.{arith}
use lib.ListN.{length-set}
use Rattle.naming.proofs.Adding.{adds_none, adds_on, adds_all, byte_adds, full_adds}
use Rattle.naming.proofs.line.Line.put_bytes.Goals.{then-end-lt-TEXT_ROOM, else-end-lt-TEXT_ROOM}
use Rattle.naming.proofs.line.Line.put_bytes.Goals as goal

pub loop-byte-init : goal.loop-byte-init
loop-byte-init c = (c.self.invariant, c.self.told, rw c.self.view_is adds_none)

pub loop-byte-preserved : goal.loop-byte-preserved
loop-byte-preserved c =
    let l = c.loop-byte in
    elim c.if-end-lt-TEXT_ROOM.branch [
      | then-end-lt-TEXT_ROOM w ↦
          rw (w.end-is, w.self-inside-is) (
            omega arith,
            length-set l.self-inside.bytes l.end _ ∙ l.invariant.1,
            adds_on _ _ c.loop-byte-test.true l.invariant.2 (byte_adds _ _ l.end (omega (arith, l.invariant.1))),
          )
      | else-end-lt-TEXT_ROOM w ↦
          rw (w.end-is, w.self-inside-is) (
            l.invariant.0,
            l.invariant.1,
            adds_on _ _ c.loop-byte-test.true l.invariant.2 (full_adds _ _ l.end l.invariant.1 w.if-end-lt-TEXT_ROOM.false),
          )
    ]

pub invariant_of-self : goal.invariant_of-self
invariant_of-self c = c.loop-byte.invariant.0

pub returns : goal.returns
returns c = let l = c.loop-byte in adds_all _ _ c.loop-byte-test.false l.auto.byte-index-end l.invariant.2
