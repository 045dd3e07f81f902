-- READ EXECUTING LANES ONLY: numbers that agree at the executing lanes give the same results, whatever the others are.
use mathlib.Core.Path.{◌≡◌, refl, ap, ap₂}
use mathlib.Core.Bool.{Bool, true, false, not, ◌&&◌, cond}
use Prim.Native.Nat.{ℕ, zero, suc, ◌≤◌, ◌<◌}
use native.Mathlib.Decide.{dec_lt}
use native.Mathlib.Omega.{arith}
use mathlib.Core.Logic.{dite}
use lib.Dec.{eqb}
use borrow.Author.Tests.{lt-ltb, le-ltb}
use Rattle.lanes.specs.Sets.{has}
use Rattle.lanes.proofs.Bits.{set_of_same}
use Rattle.instructions.specs.declared.instr.TwoOp.{TwoOp}
use Rattle.instructions.specs.declared.instr.WaveOp.{WaveOp}
use Rattle.arith.specs.Arith.{two_of}
use Rattle.across.specs.Across.{brought, from_lane, fold_below, greatest, least, nonzero, zeros, across_of, shuffle_of}

module _ (t : ℕ) (f g : ℕ → ℕ) where
  -- the numbers of the executing lanes below n agree
  abbrev Agree : ℕ → Type 0
  Agree n = (j : ℕ) → j < n → has t j ≡ true → f j ≡ g j

  fewer : {n : ℕ} → Agree (suc n) → Agree n
  fewer h j b = h j (omega arith)

  brought_same : (idle j : ℕ) → (has t j ≡ true → f j ≡ g j) → brought idle t f j ≡ brought idle t g j
  brought_same idle j h = by (has t j) refl
    where
      by : (b : Bool) → has t j ≡ b → cond b (f j) idle ≡ cond b (g j) idle
      by true e = h e
      by false e = refl

  from_same : (W j : ℕ) → Agree W → from_lane W t f j ≡ from_lane W t g j
  from_same W j h =
      dite (dec_lt j W) (λ b. rw (lt-ltb j W b) (brought_same 0 j (h j b))) (λ b. rw (le-ltb j W (omega arith)) refl)

  fold_same : (o : TwoOp) (idle n : ℕ) → Agree n → fold_below o idle t f n ≡ fold_below o idle t g n
  unfolding fold_below
  fold_same o idle zero h = refl
  fold_same o idle (suc n) h = ap₂ (two_of o) (fold_same o idle n (fewer h)) (brought_same idle n (h n (omega arith)))

  -- a test of the executing lanes' numbers
  tested : (test : ℕ → Bool) (j : ℕ) → (has t j ≡ true → f j ≡ g j) → (has t j && test (f j)) ≡ (has t j && test (g j))
  tested test j h = by (has t j) refl
    where
      by : (b : Bool) → has t j ≡ b → (b && test (f j)) ≡ (b && test (g j))
      by true e = ap test (h e)
      by false e = refl

  nonzero_same : (W : ℕ) → Agree W → nonzero W t f ≡ nonzero W t g
  unfolding nonzero
  nonzero_same W h = set_of_same W _ _ (λ j b. tested (λ n. not (eqb n 0)) j (h j b))

  zeros_same : (W : ℕ) → Agree W → zeros W t f ≡ zeros W t g
  unfolding zeros
  zeros_same W h = set_of_same W _ _ (λ j b. tested (λ n. eqb n 0) j (h j b))

-- THEOREM: of every wave operation
pub reads_executing : (o : WaveOp) (W t : ℕ) (f g : ℕ → ℕ) → ((j : ℕ) → j < W → has t j ≡ true → f j ≡ g j) → (i : ℕ) → i ≤ W
    → across_of o W t f i ≡ across_of o W t g i
reads_executing WaveOp.Broadcast W t f g h i b = from_same t f g W 0 h
reads_executing WaveOp.ReduceAdd W t f g h i b = fold_same t f g TwoOp.Add 0 W h
reads_executing WaveOp.ReduceMin W t f g h i b = fold_same t f g TwoOp.Min greatest W h
reads_executing WaveOp.ReduceMax W t f g h i b = fold_same t f g TwoOp.Max least W h
reads_executing WaveOp.PrefixSum W t f g h i b = fold_same t f g TwoOp.Add 0 i (λ j c. h j (omega arith))
reads_executing WaveOp.Ballot W t f g h i b = nonzero_same t f g W h
reads_executing WaveOp.Any W t f g h i b = ap (λ (s : ℕ). cond (eqb s 0) 0 1) (nonzero_same t f g W h)
reads_executing WaveOp.All W t f g h i b = ap (λ (s : ℕ). cond (eqb s 0) 1 0) (zeros_same t f g W h)

-- and of SHUFFLE, where lane i names the same lane
pub shuffle_reads : (W t : ℕ) (f g named named' : ℕ → ℕ) → ((j : ℕ) → j < W → has t j ≡ true → f j ≡ g j) → (i : ℕ) → named i ≡ named' i
    → shuffle_of W t f named i ≡ shuffle_of W t g named' i
shuffle_reads W t f g named named' h i e = rw e (from_same t f g W (named' i) h)
