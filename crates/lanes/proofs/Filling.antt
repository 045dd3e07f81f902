-- Laws of a number for each lane; and what holds at the turns of a loop that fills a list of zeros with f's numbers, lane by lane.
use mathlib.Core.Path.{◌≡◌, refl, sym, ◌∙◌}
use mathlib.Core.List.{List}
use mathlib.Core.Logic.{dite}
use Prim.Native.Nat.{ℕ, ◌+◌, ◌≤◌, ◌<◌}
use native.Mathlib.Decide.{dec_lt}
use native.Mathlib.Omega.{arith}
use lib.ListN.{length, get_or, set, replicate, length-set, length-replicate, get_or-replicate, get_or-eq_default}
use lib.Seq.{get_or-set_same, get_or-set_other}
use borrow.Author.Tests.{lt-ltb, le-ltb}
use Rattle.ground.proofs.Lists.{get_d_tabulate, tabulate_ext, tabulate_same}
use Rattle.lanes.specs.Sets.{widest}
use Rattle.lanes.specs.EachLane.{by_lane}

-- ---- a number for each lane

pub get_d_by_lane : (W : ℕ) (f : ℕ → ℕ) (i : ℕ) → i < W → W ≤ widest → get_or (by_lane W f) i 0 ≡ f i
unfolding by_lane
get_d_by_lane W f i h n = get_d_tabulate widest _ i (omega arith) ∙ rw (lt-ltb i W h) refl

-- numbers that agree below W
pub by_lane_same : (W : ℕ) (f g : ℕ → ℕ) → ((i : ℕ) → i < W → f i ≡ g i) → by_lane W f ≡ by_lane W g
unfolding by_lane
by_lane_same W f g h =
    tabulate_same widest _ _ (λ i b. dite (dec_lt i W) (λ l. rw (lt-ltb i W l) (h i l)) (λ l. rw (le-ltb i W (omega arith)) refl))

-- ---- a loop that fills a list

pub record Filled (W : ℕ) (f : ℕ → ℕ) (l : List ℕ) (i : ℕ) : Type 0 where
  pub low : i ≤ W
  pub narrow : W ≤ widest
  pub long : length l ≡ widest
  pub each : (k : ℕ) → k < i → get_or l k 0 ≡ f k
  pub rest : (k : ℕ) → i ≤ k → get_or l k 0 ≡ 0

zeros : (n k : ℕ) → ◌≡◌ {A = ℕ} (get_or (replicate n 0) k 0) 0
zeros n k =
    dite (dec_lt k n) (λ h. get_or-replicate n k 0 0 h) (λ h. get_or-eq_default (replicate n 0) 0 (rw length-replicate (omega arith)))

pub filled_none : {W : ℕ} (f : ℕ → ℕ) → W ≤ widest → Filled W f (replicate widest 0) 0
filled_none f n =
    record { low = omega arith; narrow = n; long = refl; each = λ k h. absurd (omega arith); rest = λ k h. zeros widest k }

-- a turn sets element i
pub filled_more : {W : ℕ} {f : ℕ → ℕ} {l : List ℕ} {i : ℕ} → Filled W f l i → i < W → (v : ℕ) → v ≡ f i → Filled W f (set l i v) (i + 1)
filled_more {W} {f} {l} {i} t b v e =
    record {
      low = omega arith;
      narrow = t.narrow;
      long = length-set l i v ∙ t.long;
      each = λ k p. dite (dec_lt k i)
          (λ q. get_or-set_other l i k v 0 (λ z. omega arith) ∙ t.each k q)
          (λ q. let z : k ≡ i = omega arith in rw z (get_or-set_same l i v 0 (omega (arith, t.long, t.narrow)) ∙ e));
      rest = λ k p. get_or-set_other l i k v 0 (λ z. omega arith) ∙ t.rest k (omega arith);
    }

-- lanes whose number is 0 need no turn
pub filled_idle : {W : ℕ} {f : ℕ → ℕ} {l : List ℕ} {i : ℕ} → Filled W f l i → (k : ℕ) → i ≤ k → k ≤ W
    → ((j : ℕ) → i ≤ j → j < k → f j ≡ 0) → Filled W f l k
filled_idle {W} {f} {l} {i} t k a b h =
    record {
      low = b;
      narrow = t.narrow;
      long = t.long;
      each = λ j p. dite (dec_lt j i) (λ q. t.each j q) (λ q. t.rest j (omega arith) ∙ sym (h j (omega arith) p));
      rest = λ j p. t.rest j (omega arith);
    }

pub filled_all : {W : ℕ} {f : ℕ → ℕ} {l : List ℕ} {i : ℕ} → Filled W f l i → W ≤ i → l ≡ by_lane W f
unfolding by_lane
filled_all {W} {f} {l} {i} t b =
    tabulate_ext widest _ l t.long
    (λ k h. dite (dec_lt k W)
    (λ p. rw (lt-ltb k W p) (t.each k (omega arith)))
    (λ p. rw (le-ltb k W (omega arith)) (t.rest k (omega (arith, t.low)))))
