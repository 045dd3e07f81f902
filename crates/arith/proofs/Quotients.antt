-- The signed quotient and remainder: every quotient fits a register but the least number's by -1.
use Rattle.std.proofs.Common.{◌≡◌, ℕ, zero, suc, ◌/◌, ◌^◌, ◌<◌, ◌≤◌, Bool, true, false, ◌&&◌, eqb, ℤ, pos, negsuc, neg_ℤ, sym, refl, ap, ◌∙◌, zero-le, div-lt_iff_lt-mul, div-le_self, div-one, arith, Fits-lit, w32, Fits, SFits, eq-eqb, eqb-true}
use native.Mathlib.Nat.{div-zero, mod-zero}
use lib.Signed.{mag, mag_rem, quot_z, rem_z}
use mir.ValLaws.{sfits_le}
use mir.Facts.{of_z-to_z, sfits_to_z, to_z_inj}
use Rattle.ground.proofs.Bools.{never, and_left, and_right}
use Rattle.arith.specs.Arith.{signed, register}
use Rattle.arith.proofs.Registers.{back, Read, worked, written}

-- the registers of the least signed number and of -1
abbrev least : ℕ
least = 0x80000000

abbrev minus_one : ℕ
minus_one = 0xFFFFFFFF

-- the test for the one quotient that does not fit
abbrev pub overflowing : ℕ → ℕ → Bool
overflowing a b = eqb a least && eqb b minus_one

-- ---- by zero

quot_zero : (z : ℤ) → quot_z z (pos 0) ≡ pos 0
quot_zero (pos a) = ap pos (div-zero a)
quot_zero (negsuc a) = rw (div-zero (suc a)) refl

pub by_zero : (a b : ℕ) → b ≡ 0 → 0 ≡ register (quot_z (signed a) (signed b))
by_zero a b e = rw e (ap register (sym (quot_zero (signed a))))

rem_zero : (z : ℤ) → rem_z z (pos 0) ≡ z
rem_zero (pos a) = ap pos (mod-zero a)
rem_zero (negsuc a) = rw (mod-zero (suc a)) refl

pub rest_by_zero : (a b : ℕ) → Fits w32 a → b ≡ 0 → a ≡ register (rem_z (signed a) (signed b))
rest_by_zero a b f e = rw e (sym (ap register (rem_zero (signed a)) ∙ of_z-to_z f))

-- ---- the overflowing quotient, and its remainder

pub overflow : (a b : ℕ) → overflowing a b ≡ true → least ≡ register (quot_z (signed a) (signed b))
overflow a b e =
    rw (eqb-true a least (and_left (eqb a least) (eqb b minus_one) e), eqb-true b minus_one (and_right (eqb a least) (eqb b minus_one) e))
    refl

pub rest_of_overflow : (a b : ℕ) → overflowing a b ≡ true → 0 ≡ register (rem_z (signed a) (signed b))
rest_of_overflow a b e =
    rw (eqb-true a least (and_left (eqb a least) (eqb b minus_one) e), eqb-true b minus_one (and_right (eqb a least) (eqb b minus_one) e))
    refl

-- ---- every other quotient fits

mag_neg : (k : ℕ) {H : ℕ} → k ≤ suc H → mag (neg_ℤ (pos k)) ≤ H
mag_neg zero h = zero-le
mag_neg (suc k) h = omega arith

below_top : (m : ℕ) → m < 2 ^ 31 → (m ≡ 2147483647 → ⊥) → suc m < 2 ^ 31
below_top m h g = omega arith

quot_small : (m n : ℕ) → m < 2 ^ 31 → (n ≡ 0 → m ≡ 2147483647 → ⊥) → suc m / suc n < 2 ^ 31
quot_small m zero h g = rw (div-one (suc m)) (below_top m h (g refl))
quot_small m (suc n) h g = (div-lt_iff_lt-mul {k = suc (suc n)} {x = suc m} {y = 2 ^ 31} (omega arith)).1 (omega arith)

quot_fits : (z d : ℤ) → SFits w32 z → (z ≡ negsuc 2147483647 → d ≡ negsuc 0 → ⊥) → SFits w32 (quot_z z d)
quot_fits (pos m) (pos n) f g = record { sfits = omega (arith, f.sfits, div-le_self m n) }
quot_fits (pos m) (negsuc n) f g =
    record { sfits = omega (arith, f.sfits, div-le_self m (suc n), mag_neg (m / suc n) {H = m} (omega (arith, div-le_self m (suc n)))) }
quot_fits (negsuc m) (pos n) f g = record { sfits = omega (arith, f.sfits, mag_neg (suc m / n) {H = m} (div-le_self (suc m) n)) }
quot_fits (negsuc m) (negsuc n) f g = record { sfits = quot_small m n f.sfits (λ p q. g (ap negsuc q) (ap negsuc p)) }

not_overflowing : (a b : ℕ) → overflowing a b ≡ false → a ≡ least → b ≡ minus_one → ⊥
not_overflowing a b e p q = never (sym e ∙ rw (eq-eqb a least p, eq-eqb b minus_one q) refl)

pub quotient_fits : (a b : ℕ) → Fits w32 a → Fits w32 b → overflowing a b ≡ false → SFits w32 (quot_z (signed a) (signed b))
quotient_fits a b f g e =
    quot_fits (signed a) (signed b) (sfits_to_z f)
    (λ p q. not_overflowing a b e (to_z_inj {w = w32} f (Fits-lit tt) p) (to_z_inj {w = w32} g (Fits-lit tt) q))

pub remainder_fits : (a b : ℕ) → Fits w32 a → SFits w32 (rem_z (signed a) (signed b))
remainder_fits a b f = sfits_le (mag_rem (signed a) (signed b)) (sfits_to_z f)

-- ---- the machine's division: x and y were read from a and b, which neither fault nor overflow

pub record Divided (a b : ℕ) (x y : ℤ) : Type 0 where
  pub dividend : Read a x
  pub divisor : Read b y
  pub some : b ≡ 0 → ⊥
  pub held : overflowing a b ≡ false

above_zero : (b : ℕ) → (b ≡ 0 → ⊥) → 0 < b
above_zero b h = omega arith

module _ {a b : ℕ} {x y : ℤ} (d : Divided a b x y) where
  fitting : SFits w32 (quot_z (signed a) (signed b))
  fitting = quotient_fits a b d.dividend.fits d.divisor.fits d.held

  pub asked : (0 < register y) × SFits w32 (quot_z (back x) (back y))
  asked = (
    rw (ap register d.divisor.is ∙ of_z-to_z d.divisor.fits) (above_zero b d.some),
    rw (worked quot_z d.dividend d.divisor) fitting,
  )

  pub quotient : register (back (quot_z (back x) (back y))) ≡ register (quot_z (signed a) (signed b))
  quotient = written (worked quot_z d.dividend d.divisor) fitting

  pub remainder : register (back (rem_z (back x) (back y))) ≡ register (rem_z (signed a) (signed b))
  remainder = written (worked rem_z d.dividend d.divisor) (remainder_fits a b d.dividend.fits)
