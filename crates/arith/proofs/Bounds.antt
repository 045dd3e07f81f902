-- What an operation gives of registers is a register: below 2^32 where its operands are.
use Rattle.std.proofs.Common.{◌≡◌, ℕ, ◌+◌, ◌-◌, ◌*◌, ◌^◌, ◌<◌, Bool, true, false, eqb, ltb, nat_abs, sym, refl, lt_of_le_of_lt, mod-lt, div-le_self, arith, lit<, w32}
use mathlib.Core.Path.{subst⁻¹}
use native.Mathlib.Nat.{mod-le}
use lib.Bits.{and_le_l, or_lt, xor_lt}
use lib.Count.{ones-le}
use lib.Signed.{quot_z}
use mir.Facts.{Fits-of_lt, Fits-of_z, Fits-nat_abs, sfits_to_z}
use Rattle.instructions.specs.declared.instr.TwoOp.{TwoOp}
use Rattle.instructions.specs.declared.instr.OneOp.{OneOp}
use Rattle.instructions.specs.declared.instr.AtomicOp.{AtomicOp}
use Rattle.ground.proofs.Numbers.{cond_lt}
use Rattle.arith.specs.Arith.{signed, register, less, wrapped, places, two_of, one_of, atomic_of, swap_of, address_of}
use Rattle.arith.proofs.Registers.{shift_fits}
use Rattle.arith.proofs.Quotients.{overflowing, overflow, quotient_fits, remainder_fits}
use Rattle.arith.proofs.HighHalf.{half_fits}

wrapped_lt : (n : ℕ) → wrapped n < 2 ^ 32
wrapped_lt n = mod-lt n (lit< tt)

quotient_lt : (a b : ℕ) → a < 2 ^ 32 → b < 2 ^ 32 → (t : Bool) → overflowing a b ≡ t → register (quot_z (signed a) (signed b)) < 2 ^ 32
quotient_lt a b ha hb true e = subst⁻¹ (λ (n : ℕ). n < 2 ^ 32) (sym (overflow a b e)) (lit< tt)
quotient_lt a b ha hb false e = (Fits-of_z (quotient_fits a b (Fits-of_lt ha) (Fits-of_lt hb) e)).fits

abs_lt : (a : ℕ) → a < 2 ^ 32 → nat_abs (signed a) < 2 ^ 32
abs_lt a h = (Fits-nat_abs {w = w32} {w' = w32} tt (sfits_to_z (Fits-of_lt h))).fits

pub address_lt : (base offset : ℕ) → address_of base offset < 2 ^ 32
address_lt base offset = wrapped_lt (base + offset)

pub two_lt : (op : TwoOp) (a b : ℕ) → a < 2 ^ 32 → b < 2 ^ 32 → two_of op a b < 2 ^ 32
two_lt TwoOp.Add a b ha hb = wrapped_lt (a + b)
two_lt TwoOp.Sub a b ha hb = wrapped_lt (a + (2 ^ 32 - b))
two_lt TwoOp.Mul a b ha hb = wrapped_lt (a * b)
two_lt TwoOp.Div a b ha hb = quotient_lt a b ha hb (overflowing a b) refl
two_lt TwoOp.Udiv a b ha hb = lt_of_le_of_lt (div-le_self a b) ha
two_lt TwoOp.Rem a b ha hb = (Fits-of_z (remainder_fits a b (Fits-of_lt ha))).fits
two_lt TwoOp.Urem a b ha hb = lt_of_le_of_lt (mod-le a b) ha
two_lt TwoOp.Min a b ha hb = cond_lt (less a b) ha hb
two_lt TwoOp.Max a b ha hb = cond_lt (less a b) hb ha
two_lt TwoOp.Mulhi a b ha hb = (Fits-of_z (half_fits a b (Fits-of_lt ha) (Fits-of_lt hb))).fits
two_lt TwoOp.And a b ha hb = lt_of_le_of_lt (and_le_l a b) ha
two_lt TwoOp.Or a b ha hb = or_lt 32 a b ha hb
two_lt TwoOp.Xor a b ha hb = xor_lt 32 a b ha hb
two_lt TwoOp.Shl a b ha hb = wrapped_lt (a * 2 ^ places b)
two_lt TwoOp.Shr a b ha hb = lt_of_le_of_lt (div-le_self a (2 ^ places b)) ha
two_lt TwoOp.Sar a b ha hb = (Fits-of_z (shift_fits a (2 ^ places b) (Fits-of_lt ha))).fits

pub one_lt : (op : OneOp) (a : ℕ) → a < 2 ^ 32 → one_of op a < 2 ^ 32
one_lt OneOp.Neg a h = wrapped_lt (2 ^ 32 - a)
one_lt OneOp.Abs a h = abs_lt a h
one_lt OneOp.Not a h = omega arith
one_lt OneOp.Popcnt a h = omega (arith, ones-le 32 a h)
one_lt OneOp.Mov a h = h

pub atomic_lt : (op : AtomicOp) (old v : ℕ) → old < 2 ^ 32 → v < 2 ^ 32 → atomic_of op old v < 2 ^ 32
atomic_lt AtomicOp.Add old v ho hv = two_lt TwoOp.Add old v ho hv
atomic_lt AtomicOp.Sub old v ho hv = two_lt TwoOp.Sub old v ho hv
atomic_lt AtomicOp.And old v ho hv = two_lt TwoOp.And old v ho hv
atomic_lt AtomicOp.Or old v ho hv = two_lt TwoOp.Or old v ho hv
atomic_lt AtomicOp.Xor old v ho hv = two_lt TwoOp.Xor old v ho hv
atomic_lt AtomicOp.Min old v ho hv = two_lt TwoOp.Min old v ho hv
atomic_lt AtomicOp.Max old v ho hv = two_lt TwoOp.Max old v ho hv
atomic_lt AtomicOp.Umin old v ho hv = cond_lt (ltb old v) ho hv
atomic_lt AtomicOp.Umax old v ho hv = cond_lt (ltb old v) hv ho
atomic_lt AtomicOp.Xchg old v ho hv = hv

pub swap_lt : (old expected desired : ℕ) → old < 2 ^ 32 → desired < 2 ^ 32 → swap_of old expected desired < 2 ^ 32
swap_lt old expected desired ho hd = cond_lt (eqb old expected) hd ho
