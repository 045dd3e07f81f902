-- `faulting::addresses::address_faults` meets its contract: where every address is in reach no lane faults, and else the lanes of each kind
-- are the faults.
use mathlib.Core.Path.{◌≡◌, sym, ◌∙◌}
use Prim.Native.Nat.{ℕ}
use native.Mathlib.Omega.{arith}
use lib.ListN.{length, get_or}
use Rattle.std.proofs.Common.{Fits, w32, rules}
use Rattle.lanes.specs.Sets.{widest}
use Rattle.faulting.proofs.Reaching.{all_in_reach, narrow_faults}
use Rattle.faulting.proofs.addresses.address_faults.Goals as goal

pub returns-then-has_all : goal.returns-then-has_all
returns-then-has_all c =
    let a = c.args in
    let r = c.of.result in
    let is = c.of.ensures in
    let low = λ (i : ℕ). (let f : Fits w32 (get_or a.at i 0) = search rules in f.fits) in
    let long : length a.at ≡ widest = search rules in
    c.no_faults.ensures
    ∙ all_in_reach r.space c.of-wave.result.lanes a.t r.words r.offset a.at r.named low (omega (arith, is.offset, c.ranges.offset.fits))
    (omega (arith, c.of-wave.result.narrow)) (sym c.has_all.ensures ∙ c.if-has_all.true)
    ∙ narrow_faults a.space a.width a.at a.offset a.words a.t c.of-wave.ensures is.space is.offset is.words c.ranges.t.fits

pub returns-in-Device : goal.returns-in-Device
returns-in-Device c =
    let a = c.args in
    let is = c.of-in-Device.ensures in
    c.each_kind.ensures
    ∙ narrow_faults a.space a.width a.at a.offset a.words a.t c.of-wave.ensures (is.space ∙ sym c.in-Device.is) is.offset is.words c.ranges.t.fits

pub returns-in-Local : goal.returns-in-Local
returns-in-Local c =
    let a = c.args in
    let is = c.of-in-Local.ensures in
    c.each_kind-in-Local.ensures
    ∙ narrow_faults a.space a.width a.at a.offset a.words a.t c.of-wave.ensures (is.space ∙ sym c.in-Local.is) is.offset is.words c.ranges.t.fits
