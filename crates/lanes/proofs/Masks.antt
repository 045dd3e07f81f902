-- What shifts of a mask of w bits give: the functions' answers, at any width.
use mathlib.Core.Path.{◌≡◌, refl, sym, ap, ◌∙◌}
use mathlib.Core.Bool.{Bool, true, false, ◌&&◌}
use mathlib.Core.Logic.{dite}
use Prim.Native.Nat.{ℕ, ◌-◌, ◌*◌, ◌/◌, ◌%◌, ◌^◌, ◌≤◌, ◌<◌, min}
use native.Mathlib.Nat.{mod-eq_of_lt, one-mul, min-eq_left, min-eq_right, le_of_lt}
use native.Mathlib.Decide.{dec_lt}
use native.Mathlib.Omega.{arith}
use lib.Dec.{eqb, ltb, lit<}
use lib.Pow.{shl_exact}
use borrow.Author.Tests.{lt-ltb, le-ltb, ltb-true}
use Rattle.ground.proofs.Bools.{and_right}
use Rattle.lanes.specs.Sets.{has, first, only}
use Rattle.lanes.proofs.Bits.{bit_shift}
use Rattle.lanes.proofs.Members.{has_past}

pub shifted : (w i : ℕ) → i < w → 1 * 2 ^ i % 2 ^ w ≡ 2 ^ i
shifted w i h = shl_exact 1 i w (lit< tt) (omega arith) ∙ one-mul (2 ^ i)

pub tested : (w s i : ℕ) → s < 2 ^ w → (ltb i w && eqb (s / 2 ^ (i % w) % 2) 1) ≡ has s i
unfolding has
tested w s i b =
    dite (dec_lt i w)
    (λ h. rw (lt-ltb i w h, mod-eq_of_lt h) (ap (λ (x : ℕ). eqb x 1) (sym (bit_shift s i))))
    (λ h. rw (le-ltb i w (omega arith)) (sym (has_past w s i b (omega arith))))

pub counted : (w n : ℕ) → n < w → 1 * 2 ^ n % 2 ^ w - 1 ≡ first (min n w)
unfolding first
counted w n h = rw (shifted w n h, min-eq_left (le_of_lt h)) refl

pub full : (w n : ℕ) → w ≤ n → first (min n w) ≡ 2 ^ w - 1
unfolding first
full w n h = rw (min-eq_right h) refl

pub picked_one : (w i : ℕ) (t : Bool) → (t && ltb i w) ≡ true → 1 * 2 ^ (i % w) % 2 ^ w ≡ only i (t && ltb i w)
unfolding only
picked_one w i t e =
    let h : i < w = ltb-true i w (and_right t (ltb i w) e) in
    rw (e, mod-eq_of_lt h) (shifted w i h)

pub picked_none : (w i : ℕ) (t : Bool) → (t && ltb i w) ≡ false → 0 ≡ only i (t && ltb i w)
unfolding only
picked_none w i t e = rw e refl
