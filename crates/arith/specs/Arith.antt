-- What each operation gives of one lane's registers. Page 01, "The words" and "One step"; MULHI by page 02.
use Rattle.std.specs.Prelude.{ℕ, ◌+◌, ◌-◌, ◌*◌, ◌/◌, ◌%◌, ◌^◌, Bool, true, false, cond, not, ℤ, ◌*ℤ◌, ◌==◌, bit_and, bit_or, bit_xor, count_ones, int_div, int_lt, int_rem, nat_lt, unsigned_abs}
use Rattle.std.specs.Int.Signed.{shr_z}
use Rattle.std.specs.Int.{w32}
use Rattle.std.proofs.Common.{to_z, of_z}
use Rattle.instructions.specs.declared.instr.TwoOp.{TwoOp}
use Rattle.instructions.specs.declared.instr.OneOp.{OneOp}
use Rattle.instructions.specs.declared.instr.CompareOp.{CompareOp}
use Rattle.instructions.specs.declared.instr.AtomicOp.{AtomicOp}

-- a register read as a signed number
abbrev pub signed : ℕ → ℤ
signed = to_z w32

-- the register that holds a signed number
abbrev pub register : ℤ → ℕ
register = of_z w32

-- sums and products wrap at 2^32
abbrev pub wrapped : ℕ → ℕ
wrapped n = n % 2 ^ 32

-- signed a is below signed b
abbrev pub less : ℕ → ℕ → Bool
less a b = int_lt (signed a) (signed b)

-- how far a shift goes: RS2 modulo 32
abbrev pub places : ℕ → ℕ
places b = b % 32

-- an address is the base plus the offset
abbrev pub address_of : ℕ → ℕ → ℕ
address_of base offset = wrapped (base + offset)

-- the number of the word that an address names
abbrev pub word_of : ℕ → ℕ
word_of address = address / 4

-- the operations on RS1 and RS2. DIV cuts toward zero, REM takes the dividend's sign; a divisor of zero, which faults, gives here 0 and the dividend.
-- MULHI is the high half of the signed product, rounded down
abbrev pub two_of : TwoOp → ℕ → ℕ → ℕ
two_of TwoOp.Add a b = wrapped (a + b)
two_of TwoOp.Sub a b = wrapped (a + (2 ^ 32 - b))
two_of TwoOp.Mul a b = wrapped (a * b)
two_of TwoOp.Div a b = register (int_div (signed a) (signed b))
two_of TwoOp.Udiv a b = a / b
two_of TwoOp.Rem a b = register (int_rem (signed a) (signed b))
two_of TwoOp.Urem a b = a % b
two_of TwoOp.Min a b = cond (less a b) a b
two_of TwoOp.Max a b = cond (less a b) b a
two_of TwoOp.Mulhi a b = register (shr_z (signed a *ℤ signed b) (2 ^ 32))
two_of TwoOp.And a b = bit_and a b
two_of TwoOp.Or a b = bit_or a b
two_of TwoOp.Xor a b = bit_xor a b
two_of TwoOp.Shl a b = wrapped (a * 2 ^ places b)
two_of TwoOp.Shr a b = a / 2 ^ places b
two_of TwoOp.Sar a b = register (shr_z (signed a) (2 ^ places b))

-- the operations that fault on a divisor of zero
abbrev pub divides : TwoOp → Bool
divides TwoOp.Add = false
divides TwoOp.Sub = false
divides TwoOp.Mul = false
divides TwoOp.Div = true
divides TwoOp.Udiv = true
divides TwoOp.Rem = true
divides TwoOp.Urem = true
divides TwoOp.Min = false
divides TwoOp.Max = false
divides TwoOp.Mulhi = false
divides TwoOp.And = false
divides TwoOp.Or = false
divides TwoOp.Xor = false
divides TwoOp.Shl = false
divides TwoOp.Shr = false
divides TwoOp.Sar = false

-- the operations on RS1 alone
abbrev pub one_of : OneOp → ℕ → ℕ
one_of OneOp.Neg a = wrapped (2 ^ 32 - a)
one_of OneOp.Abs a = unsigned_abs (signed a)
one_of OneOp.Not a = 2 ^ 32 - 1 - a
one_of OneOp.Popcnt a = count_ones a
one_of OneOp.Mov a = a

-- the comparisons
abbrev pub compare_of : CompareOp → ℕ → ℕ → Bool
compare_of CompareOp.Eq a b = a == b
compare_of CompareOp.Ne a b = not (a == b)
compare_of CompareOp.Lt a b = less a b
compare_of CompareOp.Ge a b = not (less a b)

-- what an atomic leaves of the old word and its operand
abbrev pub atomic_of : AtomicOp → ℕ → ℕ → ℕ
atomic_of AtomicOp.Add old v = two_of TwoOp.Add old v
atomic_of AtomicOp.Sub old v = two_of TwoOp.Sub old v
atomic_of AtomicOp.And old v = two_of TwoOp.And old v
atomic_of AtomicOp.Or old v = two_of TwoOp.Or old v
atomic_of AtomicOp.Xor old v = two_of TwoOp.Xor old v
atomic_of AtomicOp.Min old v = two_of TwoOp.Min old v
atomic_of AtomicOp.Max old v = two_of TwoOp.Max old v
atomic_of AtomicOp.Umin old v = cond (nat_lt old v) old v
atomic_of AtomicOp.Umax old v = cond (nat_lt old v) v old
atomic_of AtomicOp.Xchg old v = v

-- what compare-and-swap leaves: the desired word where the old one is the expected
abbrev pub swap_of : ℕ → ℕ → ℕ → ℕ
swap_of old expected desired = cond (old == expected) desired old
