-- Addresses within a memory: an address names a word below 2^30, so that more words reach no further; a loop that asks of every address
-- whether it is in reach, by the bits that any has and the highest base; and where all are, no lane faults.
use mathlib.Core.Path.{◌≡◌, refl, sym, ap, ◌∙◌}
use mathlib.Core.Bool.{Bool, true, false, not, ◌&&◌, cond, and-true, and-false, and_assoc}
use mathlib.Core.List.{List, [], ◌∷◌}
use mathlib.Core.Logic.{dite}
use Prim.Native.Nat.{ℕ, ◌+◌, ◌*◌, ◌%◌, ◌^◌, ◌≤◌, ◌<◌, min, max}
use native.Mathlib.Decide.{dec_lt}
use native.Mathlib.Nat.{min-eq_left, min-eq_right}
use native.Mathlib.Numerals.{add-one}
use native.Mathlib.Omega.{arith}
use lib.Bits.{bit_or, and_le_l, and_le_r, or_add_and, or_mod}
use lib.Dec.{eqb, ltb}
use lib.ListN.{length, get_or, take, drop, drop_of_length-le}
use lib.Seq.{drop-cons, get_or-take, length-take-le}
use borrow.Author.Tests.{eqb-true, leb-false, ltb-true, not-true, eq-eqb, lt-leb, lt-ltb}
use Rattle.ground.specs.Tests.{all_of}
use Rattle.ground.proofs.Bools.{and_left, and_right, and_both}
use Rattle.ground.proofs.Tests.{same_test, all_at}
use Rattle.lanes.specs.Sets.{widest}
use Rattle.instructions.specs.declared.instr.Space.{Space}
use Rattle.arith.specs.Arith.{address_of, word_of}
use Rattle.faulting.specs.Kinds.{past_kind, no_faults}
use Rattle.faulting.specs.Causes.{is_odd, is_past, is_over, sum_fault, base_of, in_reach, kinds_of, address_faults}
use Rattle.faulting.proofs.FaultKinds.{kinds_same, no_kinds, narrow_kinds}
use Rattle.faulting.proofs.Wrapping.{address_told}

-- past the words that an address can name is past all
named_past : (words named address : ℕ) → named ≡ min words 0x40000000 → word_of address < 0x40000000 → is_past named address ≡ is_past words address
named_past words named address e h =
    ap (λ (n : ℕ). is_past n address) e
    ∙ dite (dec_lt words 0x40000000)
    (λ b. ap (λ (n : ℕ). is_past n address) (min-eq_left (omega arith)))
    (λ b. ap (λ (n : ℕ). is_past n address) (min-eq_right (omega arith))
    ∙ lt-leb 0x40000000 (word_of address) h ∙ sym (lt-leb words (word_of address) (omega arith)))

-- so that the kinds of addresses are the same
pub named_kinds : (s : Space) (W t words named offset : ℕ) (at : List ℕ) → named ≡ min words 0x40000000
    → kinds_of W t (λ i. sum_fault s named (base_of (get_or at i 0) offset) offset) ≡ kinds_of W t (λ i. sum_fault s words (base_of (get_or at i 0) offset) offset)
named_kinds s W t words named offset at e =
    kinds_same W t _ _
    (λ i b.
    let base = base_of (get_or at i 0) offset in
    ap (λ (q : Bool). cond (is_over base offset) 6 (cond (is_odd (address_of base offset)) 1 (cond q (past_kind s) 0)))
    (named_past words named (address_of base offset) e (omega arith)))

-- ---- a loop that asks p of every number of a list: what the numbers left still decide

pub asked_more : (p : ℕ → Bool) (l : List ℕ) (k : ℕ) (all next : Bool) → k < length l → all_of p l ≡ (all && all_of p (drop k l))
    → next ≡ (all && p (get_or l k 0)) → all_of p l ≡ (next && all_of p (drop (k + 1) l))
unfolding all_of
asked_more p l k all next h e n =
    rw (add-one, n)
    (e ∙ ap (λ (r : List ℕ). all && all_of p r) (drop-cons l k 0 h) ∙ sym (and_assoc all (p (get_or l k 0)) _))

pub asked_all : (p : ℕ → Bool) (l : List ℕ) (k : ℕ) (all : Bool) → length l ≤ k → all_of p l ≡ (all && all_of p (drop k l)) → all ≡ all_of p l
unfolding all_of
asked_all p l k all h e = sym (e ∙ ap (λ (r : List ℕ). all && all_of p r) (drop_of_length-le l h) ∙ and-true all)

-- ---- every address is in reach if the bits that any of them has are no 1 or 2, and the highest of their bases is below the memory's end

module _ (offset words : ℕ) where
  -- a base below the memory's end
  abbrev pub is_below : ℕ → Bool
  is_below base = ltb (base + offset) (4 * words)

  module _ (bits top address : ℕ) where
    -- an address that joins the others adds its two lowest bits to theirs
    bits_more : eqb (bit_or bits address % 4) 0 ≡ (eqb (bits % 4) 0 && eqb (address % 4) 0)
    bits_more =
        let m : bit_or bits address % 4 ≡ bit_or (bits % 4) (address % 4) = or_mod bits address 2 in
        let s = or_add_and (bits % 4) (address % 4) in
        let l = and_le_l (bits % 4) (address % 4) in
        let r = and_le_r (bits % 4) (address % 4) in
        same_test _ _
        (λ e.
        let z = eqb-true (bit_or bits address % 4) 0 e in
        and_both _ _ (eq-eqb (bits % 4) 0 (omega (arith, z, m, s, r))) (eq-eqb (address % 4) 0 (omega (arith, z, m, s, l))))
        (λ e.
        let b = eqb-true (bits % 4) 0 (and_left _ _ e) in
        let a = eqb-true (address % 4) 0 (and_right (eqb (bits % 4) 0) _ e) in
        eq-eqb (bit_or bits address % 4) 0 (omega (arith, a, b, m, s)))

    -- and its base may be the highest
    top_more : (base : ℕ) → is_below (max top base) ≡ (is_below top && is_below base)
    top_more base =
        same_test _ _
        (λ e.
        let t = ltb-true (max top base + offset) (4 * words) e in
        and_both _ _ (lt-ltb (top + offset) (4 * words) (omega (arith, t))) (lt-ltb (base + offset) (4 * words) (omega (arith, t))))
        (λ e.
        let t = ltb-true (top + offset) (4 * words) (and_left _ _ e) in
        let b = ltb-true (base + offset) (4 * words) (and_right (is_below top) _ e) in
        lt-ltb (max top base + offset) (4 * words) (omega (arith, t, b)))

    -- two tests of both are two of one and two of the other
    apiece : (a b x y : Bool) → ((a && x) && (b && y)) ≡ ((a && b) && (x && y))
    apiece false b x y = refl
    apiece true false x y = and-false x
    apiece true true x y = refl

    pub reach_more : (eqb (bit_or bits address % 4) 0 && is_below (max top (base_of address offset)))
        ≡ ((eqb (bits % 4) 0 && is_below top) && in_reach offset words address)
    reach_more = rw (bits_more, top_more (base_of address offset)) (apiece (eqb (bits % 4) 0) (is_below top) _ _)

  -- a turn's: `next` is the higher of the highest base and that of address k
  pub reach_turn : (at : List ℕ) (W k bits top next : ℕ) → k < W → W ≤ length at
      → all_of (in_reach offset words) (take W at) ≡ ((eqb (bits % 4) 0 && is_below top) && all_of (in_reach offset words) (drop k (take W at)))
      → next ≡ max top (base_of (get_or at k 0) offset)
      → all_of (in_reach offset words) (take W at)
      ≡ ((eqb (bit_or bits (get_or at k 0) % 4) 0 && is_below next) && all_of (in_reach offset words) (drop (k + 1) (take W at)))
  reach_turn at W k bits top next b l h e =
      let tested = eqb (bits % 4) 0 && is_below top in
      asked_more (in_reach offset words) (take W at) k tested _ (omega (arith, length-take-le W at l)) h
      (ap (λ (n : ℕ). eqb (bit_or bits (get_or at k 0) % 4) 0 && is_below n) e
      ∙ reach_more bits top (get_or at k 0)
      ∙ ap (λ (x : ℕ). tested && in_reach offset words x) (sym (get_or-take W at k 0 b)))

  -- before the first: where some base is below the memory's end a base of 0 is
  pub reach_none : (l : List ℕ) → 0 < length l → all_of (in_reach offset words) l ≡ (is_below 0 && all_of (in_reach offset words) l)
  unfolding all_of
  reach_none [] h = absurd (omega arith)
  reach_none (a ∷ l) h =
      same_test _ _
      (λ e.
      let t = ltb-true (base_of a offset + offset) (4 * words) (and_right (eqb (a % 4) 0) _ (and_left (in_reach offset words a) _ e)) in
      and_both _ _ (lt-ltb (0 + offset) (4 * words) (omega (arith, t))) e)
      (λ e. and_right (is_below 0) _ e)

  -- a base is below the memory's end if its sum has not wrapped round and its address is not past the memory
  pub below_told : (base : ℕ) → words ≤ 0x40000000 → (not (is_over base offset) && not (is_past words (address_of base offset))) ≡ is_below base
  below_told base w =
      same_test _ _
      (λ e.
      let n = leb-false (2 ^ 32) (base + offset) (not-true _ (and_left _ _ e)) in
      let p = leb-false words (word_of (address_of base offset)) (not-true _ (and_right (not (is_over base offset)) _ e)) in
      lt-ltb (base + offset) (4 * words) (omega (arith, n, p)))
      (λ e.
      let t = ltb-true (base + offset) (4 * words) e in
      and_both _ _ (ap not (lt-leb (2 ^ 32) (base + offset) (omega (arith, t))))
      (ap not (lt-leb words (word_of (address_of base offset)) (omega (arith, t)))))

-- ---- where every address is in reach, no lane faults

unfaulted : (s : Space) (words offset address : ℕ) → words ≤ 0x40000000 → address < 2 ^ 32 → offset < 2 ^ 32 → in_reach offset words address ≡ true
    → sum_fault s words (base_of address offset) offset ≡ 0
unfaulted s words offset address w a o h =
    let m = eqb-true (address % 4) 0 (and_left _ _ h) in
    let t = ltb-true (base_of address offset + offset) (4 * words) (and_right (eqb (address % 4) 0) _ h) in
    let e = address_told address offset a o in
    rw (lt-leb (2 ^ 32) (base_of address offset + offset) (omega (arith, t)), e, eq-eqb (address % 4) 0 m, lt-leb words (word_of address) (omega (arith, t, e))) refl

pub all_in_reach : (s : Space) (W t words offset : ℕ) (at : List ℕ) → words ≤ 0x40000000 → ((i : ℕ) → get_or at i 0 < 2 ^ 32) → offset < 2 ^ 32
    → W ≤ length at → all_of (in_reach offset words) (take W at) ≡ true
    → no_faults ≡ kinds_of W t (λ i. sum_fault s words (base_of (get_or at i 0) offset) offset)
all_in_reach s W t words offset at w low o long h =
    no_kinds W t _
    (λ i b.
    let n : i < length (take W at) = omega (arith, length-take-le W at long) in
    unfaulted s words offset (get_or at i 0) w (low i) o
    (ap (in_reach offset words) (sym (get_or-take W at i 0 b)) ∙ all_at (in_reach offset words) (take W at) i 0 h n))

-- ---- a width past the widest wave's, and more words than an address can name, change no fault

-- so what the code asks of a memory with a narrowed width is what the definition says
pub narrow_faults : (s : Space) {told : Space} (W : ℕ) {narrow : ℕ} (at : List ℕ) (offset : ℕ) {added : ℕ} (words : ℕ) {named : ℕ} (t : ℕ) → narrow ≡ min W widest
    → told ≡ s → added ≡ offset → named ≡ min words 0x40000000 → t < 2 ^ widest
    → address_faults told narrow at added named t ≡ address_faults s W at offset words t
narrow_faults s W at offset words t e is by n b = rw (is, by) (named_kinds s _ t words _ offset at n ∙ narrow_kinds W t _ _ e b)
