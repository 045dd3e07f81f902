-- The two halves of the signed product make it again. For the reader: this ties MULHI to MUL, and says that MULHI rounds down.
use Rattle.std.proofs.Common.{◌≡◌, ℕ, zero, suc, ◌+◌, ◌-◌, ◌*◌, ◌/◌, ◌%◌, ◌^◌, ◌<◌, ℤ, pos, negsuc, ◌+ℤ◌, ◌*ℤ◌, neg_ℤ, sym, refl, ap, ◌∙◌, mul_comm, add-mul, mul-add, arith, to_z-of_z, lt-ltb}
use lib.Signed.{shr_z}
use mir.Facts.{Fits-of_lt}
use Rattle.instructions.specs.declared.instr.TwoOp.{TwoOp}
use Rattle.arith.specs.Arith.{signed, two_of}
use Rattle.arith.proofs.Registers.{read_as}
use Rattle.arith.proofs.HighHalf.{half_fits}

-- ---- a number is 2^32 times its high half, rounded down, and its low half

abbrev low : ℤ → ℕ
low (pos n) = n % 2 ^ 32
low (negsuc n) = 2 ^ 32 - suc (n % 2 ^ 32)

raised : (m l n : ℕ) → m ≡ suc (n + l) → neg_ℤ (pos m) +ℤ pos l ≡ negsuc n
raised m l n e = rw (e, lt-ltb l (suc (n + l)) (omega arith)) (ap negsuc (omega arith))

halves : (z : ℤ) → z ≡ shr_z z (2 ^ 32) *ℤ pos (2 ^ 32) +ℤ pos (low z)
halves (pos n) = ap pos (omega arith)
halves (negsuc n) = sym (raised (suc (n / 2 ^ 32) * 2 ^ 32) (low (negsuc n)) n (omega arith))

-- ---- the low half of the signed product is that of the unsigned one

low_neg : (n s k : ℕ) → n + s ≡ 2 ^ 32 * k → low (neg_ℤ (pos n)) ≡ s % 2 ^ 32
low_neg zero s k e = omega arith
low_neg (suc n) s k e = omega arith

low_pos : (n q s j k : ℕ) → n + q ≡ 2 ^ 32 * j → q + s ≡ 2 ^ 32 * k → low (pos n) ≡ s % 2 ^ 32
low_pos n q s j k e f = omega arith

times_both : (n c b : ℕ) → c + b ≡ 2 ^ 32 → n * c + n * b ≡ 2 ^ 32 * n
times_both n c b e = sym (mul-add n c b) ∙ ap (λ (k : ℕ). n * k) e ∙ mul_comm n (2 ^ 32)

both_times : (c a n : ℕ) → c + a ≡ 2 ^ 32 → c * n + a * n ≡ 2 ^ 32 * n
both_times c a n e = sym (add-mul c a n) ∙ ap (λ (k : ℕ). k * n) e

low_of_pos : (a b : ℕ) → b < 2 ^ 32 → low (pos a *ℤ signed b) ≡ a * b % 2 ^ 32
low_of_pos a b h =
    read_as b h (λ (y : ℤ). low (pos a *ℤ y) ≡ a * b % 2 ^ 32)
    refl
    (λ d f. low_neg (a * suc d) (a * b) a (times_both a (suc d) b f))

low_of_neg : (c a b : ℕ) → suc c + a ≡ 2 ^ 32 → b < 2 ^ 32 → low (negsuc c *ℤ signed b) ≡ a * b % 2 ^ 32
low_of_neg c a b e h =
    read_as b h (λ (y : ℤ). low (negsuc c *ℤ y) ≡ a * b % 2 ^ 32)
    (low_neg (suc c * b) (a * b) b (both_times (suc c) a b e))
    (λ d f. low_pos (suc c * suc d) (suc c * b) (a * b) (suc c) b (times_both (suc c) (suc d) b f) (both_times (suc c) a b e))

low_product : (a b : ℕ) → a < 2 ^ 32 → b < 2 ^ 32 → low (signed a *ℤ signed b) ≡ a * b % 2 ^ 32
low_product a b ha hb =
    read_as a ha (λ (x : ℤ). low (x *ℤ signed b) ≡ a * b % 2 ^ 32) (low_of_pos a b hb) (λ c e. low_of_neg c a b e hb)

-- ---- the law

pub mulhi_mul :
    (a b : ℕ) → a < 2 ^ 32 → b < 2 ^ 32
    → signed a *ℤ signed b ≡ signed (two_of TwoOp.Mulhi a b) *ℤ pos (2 ^ 32) +ℤ pos (two_of TwoOp.Mul a b)
mulhi_mul a b ha hb =
    rw (to_z-of_z (half_fits a b (Fits-of_lt ha) (Fits-of_lt hb)), sym (low_product a b ha hb)) (halves (signed a *ℤ signed b))
