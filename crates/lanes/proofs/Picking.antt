-- One lane taken out of a set by a mask of that lane alone: what is left is the lane, or nothing. And sets made lane by lane of such
-- marks.
use mathlib.Core.Path.{◌≡◌, refl, sym, ap, ◌∙◌}
use mathlib.Core.Bool.{Bool, true, false, not, ◌&&◌, and-true, and-false}
use mathlib.Core.Logic.{dite}
use Prim.Native.Nat.{ℕ, ◌+◌, ◌*◌, ◌%◌, ◌^◌, ◌≤◌, ◌<◌}
use native.Mathlib.Decide.{dec_lt, ℕ_discrete}
use native.Mathlib.Omega.{arith}
use lib.Bits.{bit_and, bit_or}
use lib.Dec.{eqb, ltb}
use lib.Pow.{pow_pos}
use borrow.Author.Tests.{lt-ltb, le-ltb, eq-eqb, ne_eqb}
use Rattle.lanes.specs.Sets.{widest, has, only, set_of}
use Rattle.lanes.proofs.Bits.{set_of_more}
use Rattle.lanes.proofs.Members.{has_and, has_only, has_ext, has_zero, has_set_of}
use Rattle.lanes.proofs.Masks.{shifted}

pub and_power : (s i : ℕ) → bit_and s (2 ^ i) ≡ only i (has s i)
unfolding only
and_power s i = has_ext (bit_and s (only i true)) (only i (has s i)) (λ j. has_and s (only i true) j ∙ rw (has_only, has_only) (same j))
  where
    same : (j : ℕ) → (has s j && (eqb j i && true)) ≡ (eqb j i && has s i)
    same j =
        elim (ℕ_discrete j i) [
          | yes e ↦ rw (eq-eqb j i e, e) (and-true (has s i))
          | no e ↦ rw (ne_eqb j i e) (and-false (has s j))
        ]

only_some : (i : ℕ) (t : Bool) → not (eqb (only i t) 0) ≡ t
unfolding only
only_some i true = rw (ne_eqb (2 ^ i) 0 (λ e. omega (arith, pow_pos i))) refl
only_some i false = refl

-- the mask's test, at any width
pub picks_one : (w s i : ℕ) → i < w → not (eqb (bit_and s (1 * 2 ^ i % 2 ^ w)) 0) ≡ has s i
picks_one w s i h = rw (shifted w i h, and_power s i) (only_some i (has s i))

-- the lane, where a test holds
pub marks_one : (w s i : ℕ) (t : Bool) → i < w → t ≡ true → bit_and s (1 * 2 ^ i % 2 ^ w) ≡ only i (has s i && t)
marks_one w s i t h e = rw (e, and-true, shifted w i h) (and_power s i)

pub marks_none : (s i : ℕ) (t : Bool) → t ≡ false → 0 ≡ only i (has s i && t)
unfolding only
marks_none s i t e = rw (e, and-false) refl

-- ---- a loop that marks the lanes that p picks: what holds at its turn i

pub record Marked (n : ℕ) (p : ℕ → Bool) (s i : ℕ) : Type 0 where
  pub low : i ≤ n
  pub made : s ≡ set_of i p

pub marked_none : {n : ℕ} (p : ℕ → Bool) → Marked n p 0 0
unfolding set_of
marked_none p = record { low = omega arith; made = refl }

-- a turn adds lane i, where p picks it
pub marked_more : {n : ℕ} {p : ℕ → Bool} {s i : ℕ} → Marked n p s i → i < n → (next mark : ℕ) → next ≡ bit_or s mark → mark ≡ only i (p i) → Marked n p next (i + 1)
marked_more {n} {p} {s} {i} t b next mark e h =
    record { low = omega arith; made = e ∙ ap (bit_or s) h ∙ set_of_more i p s (p i) t.made refl }

-- as the code marks it: by a test of its own, and below the widest wave's end
pub picked_more : {n : ℕ} {p : ℕ → Bool} {s i : ℕ} → Marked n p s i → i < n → n ≤ widest → (q : Bool) (next mark : ℕ) → next ≡ bit_or s mark
    → mark ≡ only i (q && ltb i widest) → q ≡ p i → Marked n p next (i + 1)
picked_more {n} {p} {s} {i} h b w q next mark e m t =
    marked_more h b next mark e (m ∙ ap (only i) (rw (lt-ltb i widest (omega arith), and-true) t))

pub marked_all : {n : ℕ} {p : ℕ → Bool} {s i : ℕ} → Marked n p s i → n ≤ i → s ≡ set_of n p
marked_all {n} {p} {s} {i} t b = let e : i ≡ n = omega (arith, t.low) in t.made ∙ ap (λ (k : ℕ). set_of k p) e

-- where no lane is in the set, none is picked
pub none_picked : (n : ℕ) (p : ℕ → Bool) → set_of n p ≡ 0 → (i : ℕ) → i < n → p i ≡ false
none_picked n p e i b = rw (lt-ltb i n b) at (sym (has_set_of n p i) ∙ ap (λ (s : ℕ). has s i) e ∙ has_zero i)

-- where none is picked, no lane is in the set
pub set_of_none : (n : ℕ) (p : ℕ → Bool) → ((i : ℕ) → i < n → p i ≡ false) → set_of n p ≡ 0
set_of_none n p h = has_ext (set_of n p) 0 (λ i. has_set_of n p i ∙ none i ∙ sym (has_zero i))
  where
    none : (i : ℕ) → (ltb i n && p i) ≡ false
    none i = dite (dec_lt i n) (λ b. rw (lt-ltb i n b) (h i b)) (λ b. rw (le-ltb i n (omega arith)) refl)
