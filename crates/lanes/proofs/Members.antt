-- The same laws with a lane as true or false; `bit_has` ties the two views.
use mathlib.Core.Path.{◌≡◌, refl, sym, ap, ap₂, ◌∙◌}
use mathlib.Core.Bool.{Bool, true, false, not, ◌&&◌, ◌||◌, cond}
use Prim.Native.Nat.{ℕ, zero, suc, ◌-◌, ◌^◌, ◌≤◌, ◌<◌, min, max}
use native.Mathlib.Omega.{arith}
use lib.Bits.{bit_and, bit_or}
use lib.Dec.{eqb, ltb}
use native.Mathlib.Decide.{dec_lt}
use mathlib.Core.Logic.{dite}
use Rattle.ground.proofs.Bools.{never}
use Rattle.lanes.specs.Sets.{bit, has, without, first, only, set_of}
use Rattle.lanes.proofs.Bits.{bit_le, set_ext, bit_and_lem, bit_or_lem, bit_without, bit_zero, bit_past, bit_first, bit_only, bit_set_of}

bit_test : (x : ℕ) → x ≤ 1 → x ≡ cond (eqb x 1) 1 0
bit_test zero h = refl
bit_test (suc zero) h = refl
bit_test (suc (suc x)) h = absurd (omega arith)

test_bit : (t : Bool) → eqb (cond t 1 0) 1 ≡ t
test_bit true = refl
test_bit false = refl

-- a lane as 0 or 1 is a lane as true or false
pub bit_has : (s i : ℕ) → bit s i ≡ cond (has s i) 1 0
unfolding has
bit_has s i = bit_test (bit s i) (bit_le s i)

pub has_bit : (s i : ℕ) (t : Bool) → bit s i ≡ cond t 1 0 → has s i ≡ t
unfolding has
has_bit s i t e = ap (λ (x : ℕ). eqb x 1) e ∙ test_bit t

-- ---- the operations at a lane

module _ (f : ℕ → ℕ → ℕ) (g : ℕ → ℕ → ℕ) (b : Bool → Bool → Bool) (lane : (s t i : ℕ) → bit (f s t) i ≡ g (bit s i) (bit t i))
    (same : (x y : Bool) → g (cond x 1 0) (cond y 1 0) ≡ cond (b x y) 1 0) where
  at_lane : (s t i : ℕ) → has (f s t) i ≡ b (has s i) (has t i)
  at_lane s t i = has_bit (f s t) i (b (has s i) (has t i)) (lane s t i ∙ ap₂ g (bit_has s i) (bit_has t i) ∙ same (has s i) (has t i))

and_test : (x y : Bool) → min (cond x 1 0) (cond y 1 0) ≡ cond (x && y) 1 0
and_test true true = refl
and_test true false = refl
and_test false true = refl
and_test false false = refl

or_test : (x y : Bool) → max (cond x 1 0) (cond y 1 0) ≡ cond (x || y) 1 0
or_test true true = refl
or_test true false = refl
or_test false true = refl
or_test false false = refl

without_test : (x y : Bool) → cond x 1 0 - cond y 1 0 ≡ cond (x && not y) 1 0
without_test true true = refl
without_test true false = refl
without_test false true = refl
without_test false false = refl

pub has_and : (a b i : ℕ) → has (bit_and a b) i ≡ (has a i && has b i)
has_and = at_lane bit_and min ◌&&◌ bit_and_lem and_test

pub has_or : (a b i : ℕ) → has (bit_or a b) i ≡ (has a i || has b i)
has_or = at_lane bit_or max ◌||◌ bit_or_lem or_test

pub has_without : (a b i : ℕ) → has (without a b) i ≡ (has a i && not (has b i))
has_without = at_lane without (λ x y. x - y) (λ x y. x && not y) bit_without without_test

pub has_zero : (i : ℕ) → has 0 i ≡ false
has_zero i = has_bit 0 i false (bit_zero i)

pub has_first : (n i : ℕ) → has (first n) i ≡ ltb i n
has_first n i = has_bit (first n) i (ltb i n) (bit_first n i)

pub has_only : (n : ℕ) (t : Bool) (i : ℕ) → has (only n t) i ≡ (eqb i n && t)
has_only n t i = has_bit (only n t) i (eqb i n && t) (bit_only n t i)

pub has_set_of : (n : ℕ) (p : ℕ → Bool) (i : ℕ) → has (set_of n p) i ≡ (ltb i n && p i)
has_set_of n p i = has_bit (set_of n p) i (ltb i n && p i) (bit_set_of n p i)

-- ---- no lane past a bound

pub has_past : (n s i : ℕ) → s < 2 ^ n → n ≤ i → has s i ≡ false
has_past n s i b h = has_bit s i false (bit_past n s i b h)

-- a lane of a set below 2 ^ n is below n
pub has_lt : (n s i : ℕ) → s < 2 ^ n → has s i ≡ true → i < n
has_lt n s i b t = dite (dec_lt i n) (λ h. h) (λ h. never (sym (has_past n s i b (omega arith)) ∙ t))

-- ---- a set within another

pub has_le : (a b : ℕ) → ((i : ℕ) → has a i ≡ true → has b i ≡ true) → (i : ℕ) → bit a i ≤ bit b i
has_le a b h i = by (has a i) refl
  where
    by : (c : Bool) → has a i ≡ c → bit a i ≤ bit b i
    by true e = omega (arith, bit_le a i, bit_has b i ∙ ap (λ (c : Bool). cond c 1 0) (h i e))
    by false e = omega (arith, bit_has a i ∙ ap (λ (c : Bool). cond c 1 0) e)

-- only the lanes t join a set that is as it was at the others
pub joined_le : (p q t i : ℕ) → (has t i ≡ false → has p i ≡ has q i) → bit p i ≤ max (bit q i) (bit t i)
joined_le p q t i h = by (has t i) refl
  where
    by : (c : Bool) → has t i ≡ c → bit p i ≤ max (bit q i) (bit t i)
    by true e = omega (arith, bit_le p i, bit_has t i ∙ ap (λ (c : Bool). cond c 1 0) e)
    by false e = omega (arith, bit_has p i ∙ ap (λ (c : Bool). cond c 1 0) (h e) ∙ sym (bit_has q i))

-- ---- sets are told apart by their lanes

pub has_ext : (a b : ℕ) → ((i : ℕ) → has a i ≡ has b i) → a ≡ b
has_ext a b h = set_ext a b (λ i. bit_has a i ∙ ap (λ (t : Bool). cond t 1 0) (h i) ∙ sym (bit_has b i))
