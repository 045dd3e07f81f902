-- Sets of lanes as numbers: lane i is in a set where its bit i is 1. The union of two sets is `bit_or`, what both have `bit_and`.
use Rattle.std.specs.Prelude.{ℕ, zero, suc, ◌+◌, ◌-◌, ◌/◌, ◌%◌, ◌^◌, Bool, cond, eqb}
use Rattle.std.specs.Int.Bits.{bit_and}
use Rattle.std.specs.Int.Count.{count_trailing_zeros}

-- how many lanes the widest wave has
abbrev pub widest : ℕ
widest = 32

-- lane i of a set, 0 or 1
unfoldable pub bit : ℕ → ℕ → ℕ
bit s zero = s % 2
bit s (suc i) = bit (s / 2) i

-- whether lane i is in a set
unfoldable pub has : ℕ → ℕ → Bool
has s i = eqb (bit s i) 1

-- the lanes of a that are not in b
unfoldable pub without : ℕ → ℕ → ℕ
without a b = a - bit_and a b

-- the lowest lane of a set, and n where it has none below n
abbrev pub lowest : ℕ → ℕ → ℕ
lowest n s = count_trailing_zeros n s

-- the lanes 0 to n-1
unfoldable pub first : ℕ → ℕ
first n = 2 ^ n - 1

-- lane i alone where `picked`, and else no lane
unfoldable pub only : ℕ → Bool → ℕ
only i picked = cond picked (2 ^ i) 0

-- the lanes below n that p picks
unfoldable pub set_of : ℕ → (ℕ → Bool) → ℕ
set_of zero p = 0
set_of (suc n) p = set_of n p + only n (p n)
