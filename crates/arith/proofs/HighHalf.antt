-- The signed product of two registers: it fits 64 bits, and its high half fits a register.
use Rattle.std.proofs.Common.{◌≡◌, ℕ, zero, suc, ◌*◌, ◌/◌, ◌^◌, ◌≤◌, ℤ, pos, negsuc, ◌*ℤ◌, neg_ℤ, nat_abs, refl, ap, ◌∙◌, le_trans, le_refl, mul-le-mul, arith, to_z-of_z, w32, w64, Fits, SFits, to_z, of_z}
use native.Mathlib.Nat.{le-suc}
use lib.Signed.{mag, shr_z, nat_abs-le}
use mir.Facts.{sfits_to_z, sfits_widen}
use Rattle.arith.specs.Arith.{signed, register}
use Rattle.arith.proofs.Registers.{back, Read, read_back, written}

-- ---- the size of a product, and of a number that is shifted

size_neg : (n : ℕ) → nat_abs (neg_ℤ (pos n)) ≡ n
size_neg zero = refl
size_neg (suc n) = refl

size_product : (x y : ℤ) → nat_abs (x *ℤ y) ≡ nat_abs x * nat_abs y
size_product (pos a) (pos b) = refl
size_product (pos a) (negsuc b) = size_neg (a * suc b)
size_product (negsuc a) (pos b) = size_neg (suc a * b)
size_product (negsuc a) (negsuc b) = refl

mag_size : (z : ℤ) → mag z ≤ nat_abs z
mag_size (pos n) = le_refl n
mag_size (negsuc n) = le-suc n

mag_shift : (z : ℤ) (m : ℕ) → mag (shr_z z m) ≡ mag z / m
mag_shift (pos n) m = refl
mag_shift (negsuc n) m = refl

-- ---- of two registers: the largest size is that of 80000000 by itself

module _ (a b : ℕ) (f : Fits w32 a) (g : Fits w32 b) where
  product_size : mag (signed a *ℤ signed b) ≤ 2 ^ 62
  product_size =
      le_trans (mag_size (signed a *ℤ signed b))
      (rw (size_product (signed a) (signed b)) (mul-le-mul (nat_abs-le (signed a) (sfits_to_z f).sfits) (nat_abs-le (signed b) (sfits_to_z g).sfits)))

  pub product_fits : SFits w64 (signed a *ℤ signed b)
  product_fits = record { sfits = omega (arith, product_size) }

  pub half_fits : SFits w32 (shr_z (signed a *ℤ signed b) (2 ^ 32))
  half_fits = record { sfits = rw (mag_shift (signed a *ℤ signed b) (2 ^ 32)) (omega (arith, product_size)) }

-- ---- a register's number at 64 bits, where the machine reads a number back too

abbrev wide : ℤ → ℤ
wide z = to_z w64 (of_z w64 z)

number_fits : {a : ℕ} → Fits w32 a → SFits w64 (signed a)
number_fits f = sfits_widen tt (sfits_to_z f)

module _ {a : ℕ} {z : ℤ} (r : Read a z) where
  pub widened_fits : SFits w64 (back z)
  widened_fits = rw (read_back r) (number_fits r.fits)

  pub widened : wide (back z) ≡ signed a
  widened = to_z-of_z widened_fits ∙ read_back r

  wide_read : wide z ≡ signed a
  wide_read = ap wide r.is ∙ to_z-of_z (number_fits r.fits)

-- ---- the machine's product: x and y were read from a and b

module _ {a b : ℕ} {x y : ℤ} (p : Read a x) (q : Read b y) where
  multiplied : wide x *ℤ wide y ≡ signed a *ℤ signed b
  multiplied = rw (wide_read p, wide_read q) refl

  shifted : wide (shr_z (wide (wide x *ℤ wide y)) (2 ^ 32)) ≡ shr_z (signed a *ℤ signed b) (2 ^ 32)
  shifted =
      rw (multiplied, to_z-of_z (product_fits a b p.fits q.fits))
      (to_z-of_z {w = w64} (sfits_widen (tt {0}) (half_fits a b p.fits q.fits)))

  pub asked_product : SFits w64 (wide x *ℤ wide y)
  asked_product = rw multiplied (product_fits a b p.fits q.fits)

  pub asked_half : SFits w32 (wide (shr_z (wide (wide x *ℤ wide y)) (2 ^ 32)))
  asked_half = rw shifted (half_fits a b p.fits q.fits)

  pub half : register (back (wide (shr_z (wide (wide x *ℤ wide y)) (2 ^ 32)))) ≡ register (shr_z (signed a *ℤ signed b) (2 ^ 32))
  half = written shifted (half_fits a b p.fits q.fits)
