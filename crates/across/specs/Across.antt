-- The wave operations: what the executing lanes t of W make together of a number f of each. Page 02, W-201.
use Rattle.std.specs.Prelude.{ℕ, zero, suc, not, ◌&&◌, cond, eqb, ltb}
use Rattle.lanes.specs.Sets.{has, set_of}
use Rattle.instructions.specs.declared.instr.TwoOp.{TwoOp}
use Rattle.instructions.specs.declared.instr.WaveOp.{WaveOp}
use Rattle.arith.specs.Arith.{two_of}

-- what lane j brings: its number, and `idle` where it doesn't execute
abbrev pub brought : ℕ → ℕ → (ℕ → ℕ) → ℕ → ℕ
brought idle t f j = cond (has t j) (f j) idle

-- the number of lane j: 0 where it isn't executing or doesn't exist
abbrev pub from_lane : ℕ → ℕ → (ℕ → ℕ) → ℕ → ℕ
from_lane W t f j = cond (ltb j W) (brought 0 t f j) 0

-- what the executing lanes below n make one after another: an operation on what those below made, and on the number. `idle` where none executes
unfoldable pub fold_below : TwoOp → ℕ → ℕ → (ℕ → ℕ) → ℕ → ℕ
fold_below o idle t f zero = idle
fold_below o idle t f (suc n) = two_of o (fold_below o idle t f n) (brought idle t f n)

-- the sum of the executing lanes below n, which wraps
abbrev pub sum_below : ℕ → (ℕ → ℕ) → ℕ → ℕ
sum_below t f n = fold_below TwoOp.Add 0 t f n

-- the largest signed number, which lowers nothing, and the least, which raises nothing
abbrev pub greatest : ℕ
greatest = 0x7FFFFFFF

abbrev pub least : ℕ
least = 0x80000000

-- the lowest signed number of the executing lanes, and the highest
abbrev pub lowest_of : ℕ → ℕ → (ℕ → ℕ) → ℕ
lowest_of W t f = fold_below TwoOp.Min greatest t f W

abbrev pub highest_of : ℕ → ℕ → (ℕ → ℕ) → ℕ
highest_of W t f = fold_below TwoOp.Max least t f W

-- the executing lanes whose number isn't 0, and those whose number is
unfoldable pub nonzero : ℕ → ℕ → (ℕ → ℕ) → ℕ
nonzero W t f = set_of W (λ j. has t j && not (eqb (f j) 0))

unfoldable pub zeros : ℕ → ℕ → (ℕ → ℕ) → ℕ
zeros W t f = set_of W (λ j. has t j && eqb (f j) 0)

-- what lane i gets
abbrev pub across_of : WaveOp → ℕ → ℕ → (ℕ → ℕ) → ℕ → ℕ
across_of WaveOp.Broadcast W t f i = from_lane W t f 0
across_of WaveOp.ReduceAdd W t f i = sum_below t f W
across_of WaveOp.ReduceMin W t f i = lowest_of W t f
across_of WaveOp.ReduceMax W t f i = highest_of W t f
across_of WaveOp.PrefixSum W t f i = sum_below t f i
across_of WaveOp.Ballot W t f i = nonzero W t f
across_of WaveOp.Any W t f i = cond (eqb (nonzero W t f) 0) 0 1
across_of WaveOp.All W t f i = cond (eqb (zeros W t f) 0) 1 0

-- SHUFFLE: lane i gets the number of the lane that it names
abbrev pub shuffle_of : ℕ → ℕ → (ℕ → ℕ) → (ℕ → ℕ) → ℕ → ℕ
shuffle_of W t f named i = from_lane W t f (named i)
