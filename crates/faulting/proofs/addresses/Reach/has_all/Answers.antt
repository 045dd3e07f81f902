-- `faulting::addresses::Reach::has_all` meets its contract: at turn k the addresses from k on still decide.
use mathlib.Core.Path.{refl, ap, ap₂, ◌∙◌}
use mathlib.Core.Bool.{Bool, not, ◌&&◌, and_assoc}
use Prim.Native.Nat.{◌%◌, max}
use native.Mathlib.Omega.{arith}
use lib.Dec.{eqb}
use lib.ListN.{take}
use lib.Seq.{length-take-le}
use Rattle.ground.specs.Tests.{all_of}
use Rattle.faulting.specs.Causes.{is_over, is_past, in_reach}
use Rattle.faulting.proofs.Reaching.{reach_turn, asked_all, is_below, reach_none, below_told}
use Rattle.faulting.proofs.addresses.Reach.has_all.Goals as goal

pub returns-then-width-eq0 : goal.returns-then-width-eq0
unfolding all_of
returns-then-width-eq0 c = rw c.if-width-eq0.true refl

pub loop-k-init : goal.loop-k-init
loop-k-init c =
    reach_none c.args.self.offset c.args.self.words (take c.args.width.lanes c.args.at.now)
    (omega (arith, length-take-le c.args.width.lanes c.args.at.now (omega arith), c.if-width-eq0.false))

pub loop-k-preserved : goal.loop-k-preserved
loop-k-preserved c =
    let h = c.loop-k in
    let a = c.args in
    let next = c.max-top.ensures ∙ ap (max h.top) c.sub.ensures in
    reach_turn a.self.offset a.self.words a.at.now a.width.lanes h.k h.bits h.top _ c.loop-k-test.true (omega arith) h.invariant next

pub returns : goal.returns
returns c =
    let h = c.loop-k in
    let a = c.args in
    let r = a.self in
    let aligned = eqb (h.bits % 4) 0 in
    ap₂ (λ (over beyond : Bool). (aligned && not over) && not beyond) c.is_over.ensures
    (c.past_end-beyond.ensures ∙ ap (is_past r.words) c.address.ensures)
    ∙ and_assoc aligned (not (is_over h.top r.offset)) _
    ∙ ap (λ (q : Bool). aligned && q) (below_told r.offset r.words h.top r.named)
    ∙ asked_all (in_reach r.offset r.words) (take a.width.lanes a.at.now) h.k (aligned && is_below r.offset r.words h.top)
    (omega (arith, length-take-le a.width.lanes a.at.now (omega arith), c.loop-k-test.false)) h.invariant
