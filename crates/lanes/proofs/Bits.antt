-- Sets lane by lane, a lane as 0 or 1, so that `omega` reads what is said of it: what both sets have is `min`, the union `max`, the
-- difference `-`, a disjoint union `+`. Two sets with the same lanes are the same number. Each law is by recursion on the lanes.
use mathlib.Core.Path.{◌≡◌, refl, sym, ap, ◌∙◌}
use mathlib.Core.Bool.{Bool, true, false, ◌&&◌, cond, and-true, and-false}
use mathlib.Core.Logic.{dite}
use Prim.Native.Nat.{ℕ, zero, suc, ◌+◌, ◌-◌, ◌*◌, ◌/◌, ◌%◌, ◌^◌, ◌≤◌, ◌<◌, min, max}
use native.Mathlib.Nat.{pow-suc, div-div-eq-div-mul, div-one, mul_comm, one-mul, max-zero, zero-max, add-zero}
use native.Mathlib.Decide.{dec_lt, ℕ_discrete}
use native.Mathlib.Numerals.{add-one}
use native.Mathlib.Omega.{arith}
use lib.Bits.{bit_and, bit_or, and_step, or_step, and_le_l, or_shifted_r, or_zero_r}
use lib.Dec.{eqb, ltb, eqb-suc-suc}
use lib.Pow.{pow_pos}
use borrow.Author.Tests.{lt-ltb, le-ltb, eq-eqb, ne_eqb}
use Rattle.lanes.specs.Sets.{bit, without, first, only, set_of}

pub bit_le : (s i : ℕ) → bit s i ≤ 1
unfolding bit
bit_le s zero = omega arith
bit_le s (suc i) = bit_le (s / 2) i

-- the bit that a shift brings down
pub bit_shift : (s i : ℕ) → bit s i ≡ s / 2 ^ i % 2
unfolding bit
bit_shift s zero = rw (div-one s) refl
bit_shift s (suc i) =
    bit_shift (s / 2) i
    ∙ ap (λ (x : ℕ). x % 2) (div-div-eq-div-mul s 2 (2 ^ i) ∙ ap (λ (x : ℕ). s / x) (mul_comm 2 (2 ^ i) ∙ sym (pow-suc 2 i)))

-- ---- sets are told apart by their lanes

same_up_to : (n a b : ℕ) → a ≤ n → b ≤ n → ((i : ℕ) → bit a i ≡ bit b i) → a ≡ b
unfolding bit
same_up_to zero a b ha hb h = omega arith
same_up_to (suc n) a b ha hb h =
    let low : a % 2 ≡ b % 2 = h 0 in
    let high : a / 2 ≡ b / 2 = same_up_to n (a / 2) (b / 2) (omega arith) (omega arith) (λ i. h (suc i)) in
    omega arith

-- two sets with the same lanes are the same number
pub set_ext : (a b : ℕ) → ((i : ℕ) → bit a i ≡ bit b i) → a ≡ b
set_ext a b h = same_up_to (a + b) a b (omega arith) (omega arith) h

le_up_to : (n a b : ℕ) → a ≤ n → ((i : ℕ) → bit a i ≤ bit b i) → a ≤ b
unfolding bit
le_up_to zero a b ha h = omega arith
le_up_to (suc n) a b ha h =
    let low : a % 2 ≤ b % 2 = h 0 in
    let high : a / 2 ≤ b / 2 = le_up_to n (a / 2) (b / 2) (omega arith) (λ i. h (suc i)) in
    omega arith

-- a set within another is no larger a number
pub set_le : (a b : ℕ) → ((i : ℕ) → bit a i ≤ bit b i) → a ≤ b
set_le a b h = le_up_to a a b (omega arith) h

-- ---- the operations at a lane

module _ (f : ℕ → ℕ → ℕ) (g : ℕ → ℕ → ℕ) (step : (a b : ℕ) → f a b ≡ f (a / 2) (b / 2) * 2 + g (a % 2) (b % 2))
    (small : (x y : ℕ) → x ≤ 1 → y ≤ 1 → g x y ≤ 1) where
  at_lane : (a b i : ℕ) → bit (f a b) i ≡ g (bit a i) (bit b i)
  unfolding bit
  at_lane a b zero =
      let e : f a b ≡ f (a / 2) (b / 2) * 2 + g (a % 2) (b % 2) = step a b in
      let s : g (a % 2) (b % 2) ≤ 1 = small (a % 2) (b % 2) (omega arith) (omega arith) in
      omega arith
  at_lane a b (suc i) =
      let e : f a b ≡ f (a / 2) (b / 2) * 2 + g (a % 2) (b % 2) = step a b in
      let s : g (a % 2) (b % 2) ≤ 1 = small (a % 2) (b % 2) (omega arith) (omega arith) in
      let h : f a b / 2 ≡ f (a / 2) (b / 2) = omega arith in
      ap (λ (x : ℕ). bit x i) h ∙ at_lane (a / 2) (b / 2) i

pub bit_and_lem : (a b i : ℕ) → bit (bit_and a b) i ≡ min (bit a i) (bit b i)
bit_and_lem = at_lane bit_and min and_step (λ x y hx hy. omega arith)

pub bit_or_lem : (a b i : ℕ) → bit (bit_or a b) i ≡ max (bit a i) (bit b i)
bit_or_lem = at_lane bit_or max or_step (λ x y hx hy. omega arith)

without_step : (a b : ℕ) → without a b ≡ without (a / 2) (b / 2) * 2 + (a % 2 - b % 2)
unfolding without
without_step a b = omega (arith, and_step a b, and_le_l (a / 2) (b / 2))

pub bit_without : (a b i : ℕ) → bit (without a b) i ≡ bit a i - bit b i
bit_without = at_lane without (λ x y. x - y) without_step (λ x y hx hy. omega arith)

pub bit_zero : (i : ℕ) → bit 0 i ≡ 0
unfolding bit
bit_zero zero = refl
bit_zero (suc i) = bit_zero i

-- ---- no lanes above a bound

-- a number below 2 ^ n has lanes below n alone
pub bit_past : (n s i : ℕ) → s < 2 ^ n → n ≤ i → bit s i ≡ 0
unfolding bit
bit_past zero s i b h = let z : s ≡ 0 = omega arith in rw z (bit_zero i)
bit_past (suc n) s zero b h = absurd (omega arith)
bit_past (suc n) s (suc i) b h = bit_past n (s / 2) i (omega (arith, pow-suc 2 n)) (omega arith)

-- a set with lanes below n alone is below 2 ^ n
pub set_lt : (n s : ℕ) → ((i : ℕ) → n ≤ i → bit s i ≡ 0) → s < 2 ^ n
unfolding bit
set_lt zero s h = let z : s ≡ 0 = set_ext s 0 (λ i. h i (omega arith) ∙ sym (bit_zero i)) in omega arith
set_lt (suc n) s h =
    omega (arith, pow-suc 2 n, set_lt n (s / 2) (λ i b. h (suc i) (omega arith)))

-- what both sets have, and what is left of one, stays within it
pub without_le : (a b : ℕ) → without a b ≤ a
without_le a b = set_le (without a b) a (λ i. omega (arith, bit_without a b i))

-- ---- sets with no lane in common

pub apart_sum : (a b : ℕ) → bit_and a b ≡ 0 → (i : ℕ) → bit (bit_or a b) i ≡ bit a i + bit b i
apart_sum a b e i = omega (arith, bit_or_lem a b i, bit_and_lem a b i, ap (λ (s : ℕ). bit s i) e, bit_zero i)

pub sum_apart : (a b : ℕ) → ((i : ℕ) → bit a i + bit b i ≤ 1) → bit_and a b ≡ 0
sum_apart a b h = set_ext (bit_and a b) 0 (λ i. omega (arith, bit_and_lem a b i, bit_zero i, h i))

-- ---- a set within another

pub within_le : (a b : ℕ) → bit_and a b ≡ a → (i : ℕ) → bit a i ≤ bit b i
within_le a b e i = omega (arith, bit_and_lem a b i, ap (λ (s : ℕ). bit s i) e)

pub le_within : (a b : ℕ) → ((i : ℕ) → bit a i ≤ bit b i) → bit_and a b ≡ a
le_within a b h = set_ext (bit_and a b) a (λ i. omega (arith, bit_and_lem a b i, h i))

-- ---- the first lanes

pub bit_first : (n i : ℕ) → bit (first n) i ≡ cond (ltb i n) 1 0
unfolding bit first
bit_first zero i = rw (le-ltb i 0 (omega arith)) (bit_zero i)
bit_first (suc n) zero = rw (lt-ltb 0 (suc n) (omega arith)) (omega (arith, pow-suc 2 n, pow_pos n))
bit_first (suc n) (suc i) =
    let e : (2 ^ suc n - 1) / 2 ≡ 2 ^ n - 1 = omega (arith, pow-suc 2 n, pow_pos n) in
    ap (λ (x : ℕ). bit x i) e ∙ bit_first n i ∙ ap (λ (t : Bool). cond t 1 0) (below_suc i n)
  where
    below_suc : (i n : ℕ) → ltb i n ≡ ltb (suc i) (suc n)
    below_suc i n =
        dite (dec_lt i n)
        (λ h. lt-ltb i n h ∙ sym (lt-ltb (suc i) (suc n) (omega arith)))
        (λ h. le-ltb i n (omega arith) ∙ sym (le-ltb (suc i) (suc n) (omega arith)))

pub first_below : (n i : ℕ) → i < n → bit (first n) i ≡ 1
first_below n i h = bit_first n i ∙ rw (lt-ltb i n h)

pub first_past : (n i : ℕ) → n ≤ i → bit (first n) i ≡ 0
first_past n i h = bit_first n i ∙ rw (le-ltb i n h)

-- a set within the first n lanes, of k, is below 2 ^ k
pub within_first_lt : (n k s : ℕ) → n ≤ k → ((i : ℕ) → bit s i ≤ bit (first n) i) → s < 2 ^ k
within_first_lt n k s l h = set_lt k s (λ i b. omega (arith, h i, first_past n i (omega arith)))

pub first_lt : (n : ℕ) → first n < 2 ^ n
unfolding first
first_lt n = omega (arith, pow_pos n)

-- ---- the set that a test picks

only_lt : (n : ℕ) (t : Bool) → only n t < 2 ^ n + 1
unfolding only
only_lt n true = omega arith
only_lt n false = omega arith

-- the lanes below n make a number below 2 ^ n
pub set_of_lt : (n : ℕ) (p : ℕ → Bool) → set_of n p < 2 ^ n
unfolding set_of
set_of_lt zero p = omega arith
set_of_lt (suc n) p = rw (pow-suc 2 n) (omega (arith, set_of_lt n p, only_lt n (p n)))

-- one lane more, of which the set had none
next_lane : (n s : ℕ) (t : Bool) → s < 2 ^ n → s + only n t ≡ bit_or s (only n t)
unfolding only
next_lane n s true h =
    let e : bit_or s (1 * 2 ^ n) ≡ 1 * 2 ^ n + s = or_shifted_r 1 n s h in
    omega (arith, rw (one-mul (2 ^ n)) at e)
next_lane n s false h = add-zero s ∙ sym (or_zero_r s)

-- a loop's turn: lane n joins the set of the lanes below n where p picks it
pub set_of_more : (n : ℕ) (p : ℕ → Bool) (s : ℕ) (t : Bool) → s ≡ set_of n p → t ≡ p n → bit_or s (only n t) ≡ set_of (n + 1) p
unfolding set_of
set_of_more n p s t e h = rw (add-one, e, h) (sym (next_lane n (set_of n p) (p n) (set_of_lt n p)))

bit_power : (n i : ℕ) → bit (2 ^ n) i ≡ cond (eqb i n) 1 0
unfolding bit
bit_power zero zero = refl
bit_power zero (suc i) = rw (ne_eqb (suc i) 0 (λ e. omega arith)) (bit_zero i)
bit_power (suc n) zero = rw (ne_eqb 0 (suc n) (λ e. omega arith)) (omega (arith, pow-suc 2 n))
bit_power (suc n) (suc i) =
    let e : 2 ^ suc n / 2 ≡ 2 ^ n = omega (arith, pow-suc 2 n) in
    ap (λ (x : ℕ). bit x i) e ∙ bit_power n i ∙ ap (λ (t : Bool). cond t 1 0) (sym (eqb-suc-suc i n))

pub bit_only : (n : ℕ) (t : Bool) (i : ℕ) → bit (only n t) i ≡ cond (eqb i n && t) 1 0
unfolding only
bit_only n true i = rw (and-true (eqb i n)) (bit_power n i)
bit_only n false i = rw (and-false (eqb i n)) (bit_zero i)

pub bit_set_of : (n : ℕ) (p : ℕ → Bool) (i : ℕ) → bit (set_of n p) i ≡ cond (ltb i n && p i) 1 0
unfolding set_of
bit_set_of zero p i = rw (le-ltb i 0 (omega arith)) (bit_zero i)
bit_set_of (suc n) p i =
    ap (λ (s : ℕ). bit s i) (next_lane n (set_of n p) (p n) (set_of_lt n p))
    ∙ bit_or_lem (set_of n p) (only n (p n)) i
    ∙ ap (λ (x : ℕ). max x (bit (only n (p n)) i)) (bit_set_of n p i)
    ∙ ap (λ (x : ℕ). max (cond (ltb i n && p i) 1 0) x) (bit_only n (p n) i)
    ∙ dite (dec_lt i n)
    (λ h. rw (lt-ltb i n h, lt-ltb i (suc n) (omega arith), ne_eqb i n (λ e. omega arith)) (max-zero (cond (p i) 1 0)))
    (λ h. elim (ℕ_discrete i n) [
      | yes e ↦ rw (e, le-ltb n n (omega arith), lt-ltb n (suc n) (omega arith), eq-eqb n n refl) (zero-max (cond (p n) 1 0))
      | no e ↦ rw (le-ltb i n (omega arith), le-ltb i (suc n) (omega arith), ne_eqb i n e) refl
    ])

-- tests that agree below n pick one set
pub set_of_same : (n : ℕ) (p q : ℕ → Bool) → ((i : ℕ) → i < n → p i ≡ q i) → set_of n p ≡ set_of n q
unfolding set_of
set_of_same zero p q h = refl
set_of_same (suc n) p q h =
    rw (h n (omega arith)) (ap (λ (s : ℕ). s + only n (q n)) (set_of_same n p q (λ i b. h i (omega arith))))
