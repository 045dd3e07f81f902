-- Sums are plain sums, wrapped; and the whole sum is the last of the sums below.
use mathlib.Core.Path.{◌≡◌, refl, ap, ◌∙◌}
use Prim.Native.Nat.{ℕ, zero, suc, ◌+◌, ◌%◌, ◌^◌}
use native.Mathlib.Omega.{arith}
use Rattle.instructions.specs.declared.instr.TwoOp.{TwoOp}
use Rattle.instructions.specs.declared.instr.WaveOp.{WaveOp}
use Rattle.arith.specs.Arith.{wrapped, two_of}
use Rattle.across.specs.Across.{brought, fold_below, sum_below, across_of}

-- the plain sum of the executing lanes below n
unfoldable pub plain_sum : ℕ → (ℕ → ℕ) → ℕ → ℕ
plain_sum t f zero = 0
plain_sum t f (suc n) = plain_sum t f n + brought 0 t f n

-- A SUM is the plain sum, wrapped
pub sum_wraps : (t : ℕ) (f : ℕ → ℕ) (n : ℕ) → sum_below t f n ≡ wrapped (plain_sum t f n)
unfolding fold_below plain_sum
sum_wraps t f zero = refl
sum_wraps t f (suc n) =
    let sum : ℕ = plain_sum t f n in
    let own : ℕ = brought 0 t f n in
    let turn : (sum % 2 ^ 32 + own) % 2 ^ 32 ≡ (sum + own) % 2 ^ 32 = omega arith in
    ap (λ (k : ℕ). wrapped (k + own)) (sum_wraps t f n) ∙ turn

-- REDUCE_ADD is the last lane's PREFIX_SUM and what that lane brings
pub total_last : (W t : ℕ) (f : ℕ → ℕ) (i : ℕ) → suc i ≡ W
    → across_of WaveOp.ReduceAdd W t f i ≡ two_of TwoOp.Add (across_of WaveOp.PrefixSum W t f i) (brought 0 t f i)
unfolding fold_below
total_last W t f i e = rw (← e) refl
