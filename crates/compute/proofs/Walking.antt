-- The lanes of a set take their turns at a memory, lowest first: what holds at the turns of such a loop. A lane that is not in the set
-- would find 0 and leave the memory as it is, so passing it over changes nothing.
use mathlib.Core.Path.{◌≡◌, refl, ap, ◌∙◌}
use mathlib.Core.Bool.{true, false, ◌&&◌}
use mathlib.Core.List.{List}
use Prim.Native.Nat.{ℕ, ◌+◌, ◌≤◌, ◌<◌, min}
use native.Mathlib.Nat.{min-eq_left}
use native.Mathlib.Omega.{arith}
use lib.Bits.{bit_and}
use lib.ListN.{get_or, set, replicate}
use Rattle.ground.proofs.Turns.{Turned, turned_none, turned_more, turned_idle, turned_all}
use Rattle.lanes.specs.Sets.{widest, has, without, first, only, lowest}
use Rattle.lanes.proofs.LowestLanes.{Waiting, waiting_all, Lowest, waiting_less, waiting_none}
use Rattle.arith.specs.Arith.{word_of}
use Rattle.lanes.specs.EachLane.{by_lane}
use Rattle.compute.specs.Memory.{word_at, change_turn, changes_of, old_of}
use Rattle.lanes.proofs.Filling.{Filled, filled_none, filled_more, filled_idle, filled_all}

-- the lanes below `next` have had their turns: what each found stands in `out`, and `rest` are the others of the set
pub record Walked (W : ℕ) (at : List ℕ) (f : ℕ → ℕ → ℕ) (t : ℕ) (before memory out : List ℕ) (rest : ℕ) : Type 0 where
  pub next : ℕ
  pub waiting : Waiting W t rest next
  pub found : Filled W (old_of at f t before) out next
  pub turned : Turned W (change_turn at f t) before memory next

pub walked_none : {W : ℕ} (at : List ℕ) (f : ℕ → ℕ → ℕ) (t : ℕ) (before : List ℕ) (rest every : ℕ) → W ≤ widest → rest ≡ bit_and t every
    → every ≡ first (min W widest) → Walked W at f t before before (replicate widest 0) rest
walked_none {W} at f t before rest every n e h =
    record {
      next = 0;
      waiting = rw (e, h, min-eq_left n) (waiting_all W t);
      found = filled_none _ n;
      turned = turned_none _ before;
    }

module _ {W : ℕ} {at : List ℕ} {f : ℕ → ℕ → ℕ} {t : ℕ} {before memory out : List ℕ} where
  -- lanes that are not in the set are passed over
  onward : {rest : ℕ} (h : Walked W at f t before memory out rest) (k : ℕ) → h.next ≤ k → k ≤ W
      → ((j : ℕ) → h.next ≤ j → j < k → has t j ≡ false)
      → Filled W (old_of at f t before) out k × Turned W (change_turn at f t) before memory k
  onward h k a b z = (
    filled_idle h.found k a b (λ j p q. rw (z j p q) refl),
    turned_idle h.turned k a b (λ j p q l. rw (z j p q) refl),
  )

  -- the lowest lane that waits takes its turn
  pub walked_more : {rest : ℕ} (h : Walked W at f t before memory out rest) (w k old : ℕ) (memory' : List ℕ) (rest' mark : ℕ) → k ≡ lowest w rest
      → Lowest W t h.next k → old ≡ word_at at memory k → memory' ≡ set memory (word_of (get_or at k 0)) (f k (word_at at memory k))
      → rest' ≡ without rest mark → mark ≡ only k (has rest k && true) → Walked W at f t before memory' (set out k old) rest'
  walked_more h w k old memory' rest' mark e l o m r s =
      let here = onward h k l.onward (omega (arith, l.low)) l.between in
      record {
        next = k + 1;
        waiting = waiting_less h.waiting w k rest' mark e r s l;
        found = filled_more here.0 l.low old (o ∙ ap (λ (x : List ℕ). word_at at x k) here.1.made ∙ rw l.among refl);
        turned = turned_more here.1 l.low memory' (m ∙ rw l.among refl);
      }

  -- when none waits, all have had their turns
  pub walked_all : (rest : ℕ) → Walked W at f t before memory out rest → rest ≡ 0
      → (out ≡ by_lane W (old_of at f t before)) × (memory ≡ changes_of W at f t before)
  unfolding changes_of
  walked_all rest h z =
      let all = onward h W h.found.low (omega arith) (waiting_none (rw z at h.waiting)) in
      (filled_all all.0 (omega arith), turned_all all.1 (omega arith))
