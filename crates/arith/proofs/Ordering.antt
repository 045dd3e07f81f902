-- Registers in the order of their signed numbers: a register moved up by 2^31, round at 2^32, is above another so moved exactly if its signed
-- number is. So the lower of two, and the higher, are told on natural numbers.
use Rattle.std.proofs.Common.{◌≡◌, ℕ, suc, ◌+◌, ◌-◌, ◌%◌, ◌^◌, ◌<◌, ◌≤◌, Bool, true, false, cond, ◌⊎◌, refl, inl, inr, arith, le-ltb, lt-ltb}
use mathlib.Core.Logic.{dite}
use native.Mathlib.Decide.{dec_lt}
use Rattle.instructions.specs.declared.instr.TwoOp.{TwoOp}
use Rattle.arith.specs.Arith.{less, two_of}

-- where a register stands in that order
abbrev pub rank : ℕ → ℕ
rank a = (a + 2 ^ 31) % 2 ^ 32

-- the lower of two is one of them, and so is the higher
one_of : (t : Bool) (a b : ℕ) → (cond t a b ≡ a) ⊎ (cond t a b ≡ b)
one_of true a b = inl refl
one_of false a b = inr refl

other_of : (t : Bool) (a b : ℕ) → (cond t b a ≡ a) ⊎ (cond t b a ≡ b)
other_of true a b = inr refl
other_of false a b = inl refl

pub min_one : (a b : ℕ) → (two_of TwoOp.Min a b ≡ a) ⊎ (two_of TwoOp.Min a b ≡ b)
min_one a b = one_of (less a b) a b

pub max_one : (a b : ℕ) → (two_of TwoOp.Max a b ≡ a) ⊎ (two_of TwoOp.Max a b ≡ b)
max_one a b = other_of (less a b) a b

module _ (a b : ℕ) (ha : a < 2 ^ 32) (hb : b < 2 ^ 32) where
  pub less_yes : rank a < rank b → less a b ≡ true
  less_yes h =
      dite (dec_lt a (2 ^ 31))
      (λ p. dite (dec_lt b (2 ^ 31))
      (λ q. rw (lt-ltb a (2 ^ 31) p, lt-ltb b (2 ^ 31) q) (lt-ltb a b (omega arith)))
      (λ q. absurd (omega arith)))
      (λ p. dite (dec_lt b (2 ^ 31))
      (λ q. rw (le-ltb a (2 ^ 31) (omega arith), lt-ltb b (2 ^ 31) q) refl)
      (λ q. rw (le-ltb a (2 ^ 31) (omega arith), le-ltb b (2 ^ 31) (omega arith)) (lt-ltb (2 ^ 32 - suc b) (2 ^ 32 - suc a) (omega arith))))

  pub less_no : rank b ≤ rank a → less a b ≡ false
  less_no h =
      dite (dec_lt a (2 ^ 31))
      (λ p. dite (dec_lt b (2 ^ 31))
      (λ q. rw (lt-ltb a (2 ^ 31) p, lt-ltb b (2 ^ 31) q) (le-ltb a b (omega arith)))
      (λ q. rw (lt-ltb a (2 ^ 31) p, le-ltb b (2 ^ 31) (omega arith)) refl))
      (λ p. dite (dec_lt b (2 ^ 31))
      (λ q. absurd (omega arith))
      (λ q. rw (le-ltb a (2 ^ 31) (omega arith), le-ltb b (2 ^ 31) (omega arith)) (le-ltb (2 ^ 32 - suc b) (2 ^ 32 - suc a) (omega arith))))

  -- the lower of two is above neither
  pub min_low : (rank (two_of TwoOp.Min a b) ≤ rank a) × (rank (two_of TwoOp.Min a b) ≤ rank b)
  min_low =
      dite (dec_lt (rank a) (rank b))
      (λ h. rw (less_yes h) (omega arith, omega arith))
      (λ h. rw (less_no (omega arith)) (omega arith, omega arith))

  -- the higher of two is below neither
  pub max_high : (rank a ≤ rank (two_of TwoOp.Max a b)) × (rank b ≤ rank (two_of TwoOp.Max a b))
  max_high =
      dite (dec_lt (rank a) (rank b))
      (λ h. rw (less_yes h) (omega arith, omega arith))
      (λ h. rw (less_no (omega arith)) (omega arith, omega arith))
