-- The lowest lane of a set is in it, and no lower lane is. By recursion on the lanes that are looked at.
use mathlib.Core.Path.{◌≡◌, refl, sym, ap, ◌∙◌}
use mathlib.Core.Bool.{Bool, true, false, not, ◌&&◌, and-true, and-false}
use mathlib.Core.Logic.{dite}
use Prim.Native.Nat.{ℕ, zero, suc, ◌+◌, ◌/◌, ◌%◌, ◌^◌, ◌≤◌, ◌<◌}
use native.Mathlib.Nat.{pow-suc, lt_of_le_of_lt, lt_of_lt_of_le}
use native.Mathlib.Decide.{dec_lt}
use native.Mathlib.Omega.{arith}
use lib.Bits.{bit_and, and_le_l, and_le_r}
use lib.Count.{count_trailing_zeros, under}
use lib.Dec.{eqb}
use lib.Pow.{pow_pos, pow_mono}
use borrow.Author.Tests.{lt-ltb, eq-eqb, ne_eqb}
use Rattle.ground.proofs.Bools.{never}
use Rattle.lanes.specs.Sets.{bit, has, without, first, only, lowest}
use Rattle.lanes.proofs.Bits.{first_lt, without_le}
use Rattle.lanes.proofs.Members.{has_bit, has_and, has_without, has_zero, has_first, has_only, has_lt}
use Rattle.lanes.proofs.Picking.{and_power}

-- of a set whose lowest bit is d, and t the lowest lane of the rest
under_bit : (s d t : ℕ) → s % 2 ≡ d → (d ≡ 0 → bit (s / 2) t ≡ 1) → bit s (under d t) ≡ 1
unfolding bit
under_bit s zero t e h = h refl
under_bit s (suc d) t e h = omega arith

lowest_bit : (n s : ℕ) → 0 < s → s < 2 ^ n → bit s (lowest n s) ≡ 1
unfolding count_trailing_zeros
lowest_bit zero s p b = absurd (omega arith)
lowest_bit (suc n) s p b =
    under_bit s (s % 2) (lowest n (s / 2)) refl (λ e. lowest_bit n (s / 2) (omega arith) (omega (arith, pow-suc 2 n)))

bit_under : (s d t i : ℕ) → s % 2 ≡ d → ((k : ℕ) → k < t → bit (s / 2) k ≡ 0) → i < under d t → bit s i ≡ 0
unfolding bit
bit_under s zero t zero e h b = e
bit_under s zero t (suc i) e h b = h i (omega arith)
bit_under s (suc d) t i e h b = absurd (omega arith)

bit_below : (n s i : ℕ) → i < lowest n s → bit s i ≡ 0
unfolding count_trailing_zeros
bit_below zero s i b = absurd (omega arith)
bit_below (suc n) s i b = bit_under s (s % 2) (lowest n (s / 2)) i refl (bit_below n (s / 2)) b

pub has_lowest : (n s : ℕ) → 0 < s → s < 2 ^ n → has s (lowest n s) ≡ true
has_lowest n s p b = has_bit s (lowest n s) true (lowest_bit n s p b)

pub has_below_lowest : (n s i : ℕ) → i < lowest n s → has s i ≡ false
has_below_lowest n s i b = has_bit s i false (bit_below n s i b)

-- ---- a loop over the lanes of a set, lowest first

-- the lanes below i have had their turn, and of those below n that are in t the others wait
pub record Waiting (n t rest i : ℕ) : Type 0 where
  pub low : rest < 2 ^ n
  pub done : (j : ℕ) → j < i → has rest j ≡ false
  pub same : (j : ℕ) → i ≤ j → j < n → has rest j ≡ has t j

pub waiting_all : (n t : ℕ) → Waiting n t (bit_and t (first n)) 0
waiting_all n t =
    record {
      low = lt_of_le_of_lt (and_le_r t (first n)) (first_lt n);
      done = λ j b. absurd (omega arith);
      same = λ j a b. has_and t (first n) j ∙ rw (has_first n j, lt-ltb j n b) (and-true (has t j));
    }

-- the lowest that waits is lane k: those between have no turn
pub record Lowest (n t i k : ℕ) : Type 0 where
  pub onward : i ≤ k
  pub low : k < n
  pub among : has t k ≡ true
  pub between : (j : ℕ) → i ≤ j → j < k → has t j ≡ false

pub waiting_lowest : {n t rest i : ℕ} → Waiting n t rest i → (w k : ℕ) → n ≤ w → 0 < rest → k ≡ lowest w rest → Lowest n t i k
waiting_lowest {n} {t} {rest} {i} h w k l p e =
    record {
      onward = onward;
      low = low;
      among = sym (h.same k onward low) ∙ here;
      between = λ j a c. sym (h.same j a (omega (arith, low))) ∙ has_below_lowest w rest j (rw (← e) c);
    }
  where
    here : has rest k ≡ true
    here = rw e (has_lowest w rest p (lt_of_lt_of_le h.low (pow_mono l)))

    low : k < n
    low = has_lt n rest k h.low here

    onward : i ≤ k
    onward = dite (dec_lt k i) (λ c. never (sym (h.done k c) ∙ here)) (λ c. omega arith)

-- it is taken out of those that wait
pub lowest_alone : {n t rest i k : ℕ} → Waiting n t rest i → Lowest n t i k → only k (has rest k && true) ≡ only k true
lowest_alone {n} {t} {rest} {i} {k} h l = ap (λ (b : Bool). only k (b && true)) (h.same k l.onward l.low ∙ l.among)

pub waiting_less : {n t rest i : ℕ} → Waiting n t rest i → (w k next mark : ℕ) → k ≡ lowest w rest → next ≡ without rest mark
    → mark ≡ only k (has rest k && true) → Lowest n t i k → Waiting n t next (k + 1)
waiting_less {n} {t} {rest} {i} h w k next mark e s m l =
    record {
      low = rw s (lt_of_le_of_lt (without_le rest mark) h.low);
      done = λ j b. is j ∙ dite (dec_lt j k)
          (λ c. rw (has_below_lowest w rest j (rw (← e) c)) refl)
          (λ c. rw (eq-eqb j k (omega arith)) (and-false (has rest j)));
      same = λ j a b. is j ∙ rw (ne_eqb j k (λ q. omega arith)) (and-true (has rest j)) ∙ h.same j (omega (arith, l.onward)) b;
    }
  where
    is : (j : ℕ) → has next j ≡ (has rest j && not (eqb j k && true))
    is j = rw (s, has_without, m, lowest_alone h l, has_only) refl

-- so that fewer wait, as numbers
pub waiting_fewer : {n t rest i : ℕ} → Waiting n t rest i → (k next mark : ℕ) → next ≡ without rest mark
    → mark ≡ only k (has rest k && true) → Lowest n t i k → next < rest
unfolding without only
waiting_fewer {n} {t} {rest} {i} h k next mark s m l =
    let e : bit_and rest mark ≡ 2 ^ k =
    ap (bit_and rest) (m ∙ lowest_alone h l) ∙ and_power rest k ∙ ap (only k) (h.same k l.onward l.low ∙ l.among)
    in
    omega (arith, s, e, pow_pos k, and_le_l rest mark)

-- none waits: no lane is left
pub waiting_none : {n t i : ℕ} → Waiting n t 0 i → (j : ℕ) → i ≤ j → j < n → has t j ≡ false
waiting_none h j a b = sym (h.same j a b) ∙ has_zero j
