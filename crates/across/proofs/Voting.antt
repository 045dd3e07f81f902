-- The votes, said of the lanes one by one: which lanes BALLOT has, when ANY is 0 and ALL is 1. And the executing lanes that are not among those
-- whose number isn't 0 are those whose number is.
use mathlib.Core.Path.{◌≡◌, refl, sym, ap, ap₂, ◌∙◌}
use mathlib.Core.Bool.{Bool, true, false, not, ◌&&◌, cond}
use mathlib.Core.Logic.{◌↔◌}
use Prim.Native.Nat.{ℕ, ◌^◌, ◌≤◌, ◌<◌, min}
use native.Mathlib.Decide.{ℕ_discrete}
use native.Mathlib.Nat.{min-eq_left}
use native.Mathlib.Omega.{arith}
use lib.Bits.{bit_and}
use lib.Dec.{eqb, ltb}
use borrow.Author.Tests.{eqb-true, eq-eqb, ne_eqb}
use Rattle.std.specs.Int.{from_bool}
use Rattle.ground.proofs.Bools.{never}
use Rattle.lanes.specs.Sets.{widest, has, without, first}
use Rattle.lanes.proofs.Bits.{set_of_lt}
use Rattle.lanes.proofs.Members.{has_and, has_without, has_first, has_set_of, has_ext}
use Rattle.lanes.proofs.Picking.{none_picked, set_of_none}
use Rattle.instructions.specs.declared.instr.WaveOp.{WaveOp}
use Rattle.across.specs.Across.{nonzero, zeros, across_of}

-- ---- as the code tells them

as_number : (b : Bool) → from_bool b ≡ cond b 1 0
as_number true = refl
as_number false = refl

rest_of : (a b z : Bool) → ((a && b) && not (b && (a && not z))) ≡ (b && (a && z))
rest_of true true true = refl
rest_of true true false = refl
rest_of true false z = refl
rest_of false true z = refl
rest_of false false z = refl

pub others_zero : (W t : ℕ) (f : ℕ → ℕ) (every told set : ℕ) → W ≤ widest → every ≡ bit_and t (first (min W widest)) → told ≡ nonzero W t f
    → set ≡ without every told → set ≡ zeros W t f
unfolding nonzero zeros
others_zero W t f every told set n e v h =
    has_ext set (zeros W t f)
    (λ i.
    ap (λ (s : ℕ). has s i) h ∙ has_without every told i
    ∙ ap₂ (λ (a b : Bool). a && not b)
    (ap (λ (s : ℕ). has s i) (e ∙ ap (λ (k : ℕ). bit_and t (first k)) (min-eq_left n)) ∙ has_and t (first W) i ∙ ap (λ (b : Bool). has t i && b) (has_first W i))
    (ap (λ (s : ℕ). has s i) v ∙ has_set_of W _ i)
    ∙ rest_of (has t i) (ltb i W) (eqb (f i) 0)
    ∙ sym (has_set_of W (λ j. has t j && eqb (f j) 0) i))

pub all_told : (W t : ℕ) (f : ℕ → ℕ) (every told set r : ℕ) → W ≤ widest → every ≡ bit_and t (first (min W widest)) → told ≡ nonzero W t f
    → set ≡ without every told → r ≡ from_bool (eqb set 0) → r ≡ cond (eqb (zeros W t f) 0) 1 0
all_told W t f every told set r n e v h a =
    a ∙ as_number (eqb set 0) ∙ ap (λ (s : ℕ). cond (eqb s 0) 1 0) (others_zero W t f every told set n e v h)

-- ---- THEOREMS

-- what is chosen where a set has no lane tells that it has none
told_none : (s a b : ℕ) → (b ≡ a → ⊥) → cond (eqb s 0) a b ≡ a → s ≡ 0
told_none s a b n e = elim (ℕ_discrete s 0) [ yes z ↦ z | no z ↦ absurd (n (rw (ne_eqb s 0 z) at e)) ]

module _ (W t : ℕ) (f : ℕ → ℕ) where
  -- BALLOT has lane j exactly if it is a lane, executes and has a number other than 0
  pub ballot_has : (i j : ℕ) → has (across_of WaveOp.Ballot W t f i) j ≡ (ltb j W && (has t j && not (eqb (f j) 0)))
  unfolding nonzero
  ballot_has i j = has_set_of W (λ k. has t k && not (eqb (f k) 0)) j

  -- its bits past W are 0
  pub ballot_below : (i : ℕ) → across_of WaveOp.Ballot W t f i < 2 ^ W
  unfolding nonzero
  ballot_below i = set_of_lt W (λ k. has t k && not (eqb (f k) 0))

  -- ANY is 0 exactly if the number of every executing lane is 0
  pub any_none : (i : ℕ) → (across_of WaveOp.Any W t f i ≡ 0) ↔ ((j : ℕ) → j < W → has t j ≡ true → f j ≡ 0)
  unfolding nonzero
  any_none i = (forth, back)
    where
      zero_of : (b c : Bool) → b ≡ true → (b && not c) ≡ false → c ≡ true
      zero_of true true e h = refl
      zero_of true false e h = never (sym h)
      zero_of false c e h = never e

      forth : across_of WaveOp.Any W t f i ≡ 0 → (j : ℕ) → j < W → has t j ≡ true → f j ≡ 0
      forth e j b h = eqb-true (f j) 0 (zero_of (has t j) (eqb (f j) 0) h (none_picked W (λ k. has t k && not (eqb (f k) 0)) (told_none _ 0 1 (λ z. omega arith) e) j b))

      unpicked : (b c : Bool) → (b ≡ true → c ≡ true) → (b && not c) ≡ false
      unpicked true c h = rw (h refl) refl
      unpicked false c h = refl

      back : ((j : ℕ) → j < W → has t j ≡ true → f j ≡ 0) → across_of WaveOp.Any W t f i ≡ 0
      back h =
          rw (set_of_none W (λ k. has t k && not (eqb (f k) 0)) (λ j b. unpicked (has t j) (eqb (f j) 0) (λ e. eq-eqb (f j) 0 (h j b e)))) refl

  -- ALL is 1 exactly if the number of no executing lane is 0
  pub all_none : (i : ℕ) → (across_of WaveOp.All W t f i ≡ 1) ↔ ((j : ℕ) → j < W → has t j ≡ true → f j ≡ 0 → ⊥)
  unfolding zeros
  all_none i = (forth, back)
    where
      forth : across_of WaveOp.All W t f i ≡ 1 → (j : ℕ) → j < W → has t j ≡ true → f j ≡ 0 → ⊥
      forth e j b h z =
          let none : (has t j && eqb (f j) 0) ≡ false = none_picked W (λ k. has t k && eqb (f k) 0) (told_none _ 1 0 (λ z. omega arith) e) j b in
          never (sym (rw (h, eq-eqb (f j) 0 z) at none))

      unpicked : (b : Bool) (n : ℕ) → (b ≡ true → n ≡ 0 → ⊥) → (b && eqb n 0) ≡ false
      unpicked true n h = ne_eqb n 0 (h refl)
      unpicked false n h = refl

      back : ((j : ℕ) → j < W → has t j ≡ true → f j ≡ 0 → ⊥) → across_of WaveOp.All W t f i ≡ 1
      back h = rw (set_of_none W (λ k. has t k && eqb (f k) 0) (λ j b. unpicked (has t j) (f j) (h j b))) refl
