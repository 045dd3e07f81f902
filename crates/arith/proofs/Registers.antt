-- Registers read as signed numbers, and signed numbers written to registers. The machine keeps a signed number by its register and
-- reads it back at each use (`back`): the laws say that what is read back is what was read first.
use Rattle.std.proofs.Common.{◌≡◌, ℕ, zero, suc, ◌+◌, ◌-◌, ◌^◌, ◌<◌, ◌≤◌, true, false, T, ℤ, pos, negsuc, ◌-ℤ◌, nat_abs, refl, ap, ◌∙◌, zero-add, arith, to_z-of_z, w32, Fits, SFits, le-ltb, leb-false}
use mathlib.Core.Logic.{dite}
use native.Mathlib.Decide.{dec_lt}
use lib.Signed.{mag, le_z, non_neg, shr_z, mag_shr}
use mir.ValLaws.{sfits_le}
use mir.Facts.{of_z-to_z, to_z_pos, sfits_to_z}
use Rattle.ground.proofs.Bools.{never}
use Rattle.arith.specs.Arith.{signed, register}

abbrev pub back : ℤ → ℤ
back z = signed (register z)

-- ---- -1 less a number

from_pos : (n : ℕ) → negsuc 0 -ℤ pos n ≡ negsuc n
from_pos zero = refl
from_pos (suc n) = ap (λ (k : ℕ). negsuc (suc k)) (zero-add n)

from_negsuc : (n : ℕ) → negsuc 0 -ℤ negsuc n ≡ pos n
from_negsuc n = rw (le-ltb (suc n) 1 (omega arith)) (ap pos (omega arith))

-- ---- reading: the upper half of the registers is negative

pub upper : (x : ℕ) → 2 ^ 31 ≤ x → signed x ≡ negsuc (2 ^ 32 - suc x)
upper x h = rw (le-ltb x (2 ^ 31) h) refl

-- a register's number is itself, or negative and as far from 0 as the register from 2^32
pub read_as : (x : ℕ) → x < 2 ^ 32 → (P : ℤ → Type 0) → P (pos x) → ((c : ℕ) → suc c + x ≡ 2 ^ 32 → P (negsuc c)) → P (signed x)
read_as x h P p n =
    dite (dec_lt x (2 ^ 31))
    (λ l. rw (to_z_pos w32 {n = x} l) p)
    (λ l. rw (upper x (omega arith)) (n (2 ^ 32 - suc x) (omega arith)))

pub upper_made : (x : ℕ) → 2 ^ 31 ≤ x → x < 2 ^ 32 → negsuc 0 -ℤ signed (4294967295 - x) ≡ signed x
upper_made x h b =
    rw (to_z_pos w32 {n = 4294967295 - x} (omega arith), from_pos, upper x h)
    (ap negsuc (omega arith))

-- ---- writing a number that is not negative

plain_of : (z : ℤ) → SFits w32 z → le_z (pos 0) z ≡ true → T (non_neg z) × Fits w32 (nat_abs z) × (nat_abs z ≡ register z)
plain_of (pos n) f t = (tt, record { fits = omega (arith, f.sfits) }, refl)
plain_of (negsuc n) f t = never t

pub plain : (z : ℤ) → SFits w32 z → le_z (pos 0) (back z) ≡ true → T (non_neg (back z)) × Fits w32 (nat_abs (back z)) × (nat_abs (back z) ≡ register z)
plain z f t = rw (to_z-of_z f) (plain_of z f (rw (to_z-of_z f) at t))

-- ---- writing a negative number: -1 less it is not negative

flip_of : (z : ℤ) → le_z (pos 0) z ≡ false → negsuc 0 -ℤ z ≡ pos (mag z)
flip_of (pos n) t = absurd (let h : n < 0 = leb-false 0 n t in omega arith)
flip_of (negsuc n) t = from_negsuc n

flip : (z : ℤ) → SFits w32 z → le_z (pos 0) (back z) ≡ false → negsuc 0 -ℤ back z ≡ pos (mag z)
flip z f t = rw (to_z-of_z f) (flip_of z (rw (to_z-of_z f) at t))

pub flip_fits : (z : ℤ) → SFits w32 z → le_z (pos 0) (back z) ≡ false → SFits w32 (negsuc 0 -ℤ back z)
flip_fits z f t = rw (flip z f t) (record { sfits = f.sfits })

pub flipped : (z : ℤ) → SFits w32 z → le_z (pos 0) (back z) ≡ false → back (negsuc 0 -ℤ back z) ≡ pos (mag z)
flipped z f t = to_z-of_z (flip_fits z f t) ∙ flip z f t

flip_back_of : (z : ℤ) → SFits w32 z → le_z (pos 0) z ≡ false → 4294967295 - mag z ≡ register z
flip_back_of (pos n) f t = absurd (let h : n < 0 = leb-false 0 n t in omega arith)
flip_back_of (negsuc n) f t = omega (arith, f.sfits)

pub flip_back : (z : ℤ) → SFits w32 z → le_z (pos 0) (back z) ≡ false → 4294967295 - mag z ≡ register z
flip_back z f t = flip_back_of z f (rw (to_z-of_z f) at t)

-- ---- what was read: z is register a's number

pub record Read (a : ℕ) (z : ℤ) : Type 0 where
  pub fits : Fits w32 a
  pub is : z ≡ signed a

pub read_back : {a : ℕ} {z : ℤ} → Read a z → back z ≡ signed a
read_back r = ap back r.is ∙ ap signed (of_z-to_z r.fits)

-- f of two numbers that were read
module _ {A : Type 0} (f : ℤ → ℤ → A) {a b : ℕ} {x y : ℤ} (p : Read a x) (q : Read b y) where
  pub worked : f (back x) (back y) ≡ f (signed a) (signed b)
  worked = ap (λ (z : ℤ). f z (back y)) (read_back p) ∙ ap (f (signed a)) (read_back q)

-- the register of a number that was worked out and read back
pub written : {x y : ℤ} → x ≡ y → SFits w32 y → register (back x) ≡ register y
written e f = ap (λ (z : ℤ). register (back z)) e ∙ ap register (to_z-of_z f)

-- a shift to the right never leaves the range
pub shift_fits : (a m : ℕ) → Fits w32 a → SFits w32 (shr_z (signed a) m)
shift_fits a m f = sfits_le (mag_shr (signed a) m) (sfits_to_z f)
