-- A list of kinds is in the table exactly if its number spells a list of the table; and the turns of the loop that tests faults, from the
-- last to the first.
use mathlib.Core.Path.{◌≡◌, refl, sym, ap, ap₂, ◌∙◌}
use Prim.Native.Nat.{ℕ, zero, suc, ◌+◌, ◌*◌, ◌-◌, ◌≤◌, ◌<◌}
use mathlib.Core.List.{List, [], ◌∷◌, map}
use mathlib.Core.Bool.{Bool, true, false, not, ◌&&◌, ◌||◌, and-true}
use native.Mathlib.Omega.{arith}
use Rattle.std.specs.List.{list_any}
use lib.Bits.{bit_and, bit_or}
use lib.Dec.{ltb, eqb}
use lib.ListN.{length, get_or, drop, length-map, length-drop, drop_of_length-le}
use lib.Seq.{drop-cons}
use borrow.Author.Tests.{ltb-true, eqb-true, eq-eqb}
use Rattle.ground.specs.Tests.{same_list, one_of, all_of}
use Rattle.ground.proofs.Bools.{never, and_left, and_right, and_both}
use Rattle.ground.proofs.Tests.{false_of, same_test, same_refl, same_true, one_all}
use Rattle.numbers.specs.Numbers.{bound}
use Rattle.lanes.specs.Sets.{bit}
use Rattle.lanes.proofs.Bits.{set_ext, bit_and_lem, bit_or_lem, bit_zero}
use Rattle.lanes.specs.declared.said.Fault.{Fault}
use Rattle.body.specs.Layout.{Kinds, most_kinds, kind_lists, apart, faults_fit}
use Rattle.body.specs.Spelling.{digit, spelled, spells, may_precede, together}
use Rattle.body.specs.Body.{no_fault}
use Rattle.body.proofs.Starts.{page_count}

-- ---- one number for one list

digit_says : (d : ℕ) → digit d ≡ true → (0 < d) × (d < 16)
digit_says d e = (ltb-true 0 d (and_left (ltb 0 d) (ltb d 16) e), ltb-true d 16 (and_right (ltb 0 d) (ltb d 16) e))

spelled_once : (ks ls : List ℕ) → all_of digit ks ≡ true → all_of digit ls ≡ true → spelled ks ≡ spelled ls → ks ≡ ls
unfolding all_of spelled
spelled_once [] [] a b e = refl
spelled_once [] (l ∷ ls) a b e = absurd (let h = (digit_says l (and_left (digit l) _ b)).0 in omega arith)
spelled_once (k ∷ ks) [] a b e = absurd (let h = (digit_says k (and_left (digit k) _ a)).0 in omega arith)
spelled_once (k ∷ ks) (l ∷ ls) a b e =
    let h = (digit_says k (and_left (digit k) _ a)).1 in
    let g = (digit_says l (and_left (digit l) _ b)).1 in
    ap₂ ◌∷◌ (omega arith) (spelled_once ks ls (and_right (digit k) _ a) (and_right (digit l) _ b) (omega arith))

same_spelled : (ks ls : List ℕ) → all_of digit ks ≡ true → all_of digit ls ≡ true → eqb (spelled ks) (spelled ls) ≡ same_list ks ls
same_spelled ks ls a b =
    same_test (eqb (spelled ks) (spelled ls)) (same_list ks ls)
    (λ e. ap (same_list ks) (sym (spelled_once ks ls a b (eqb-true _ _ e))) ∙ same_refl ks)
    (λ e. eq-eqb _ _ (ap spelled (same_true ks ls e)))

pub spells_one : (k : Kinds) (ks : List ℕ) → all_of (all_of digit) k ≡ true → all_of digit ks ≡ true → spells k (spelled ks) ≡ one_of ks k
unfolding all_of spells one_of
spells_one [] ks h a = refl
spells_one (l ∷ k) ks h a =
    ap₂ ◌||◌ (same_spelled ks l a (and_left (all_of digit l) _ h)) (spells_one k ks (and_right (all_of digit l) _ h) a)

-- a number is among those that spell the table's lists, or is not
pub spells_listed : (k : Kinds) (n : ℕ) → list_any (λ (m : ℕ). eqb m n) (map spelled k) ≡ spells k n
unfolding spells
spells_listed [] n = refl
spells_listed (ks ∷ k) n = ap₂ ◌||◌ (same_test _ _ (λ e. eq-eqb _ _ (sym (eqb-true _ _ e))) (λ e. eq-eqb _ _ (sym (eqb-true _ _ e)))) (spells_listed k n)

-- ---- its size

-- n digits stay below this
unfoldable pub below : ℕ → ℕ
below zero = 1
below (suc n) = 16 * below n

pub spelled_below : (ks : List ℕ) → all_of digit ks ≡ true → spelled ks < below (length ks)
unfolding all_of spelled below
spelled_below [] a = omega arith
spelled_below (k ∷ ks) a =
    let h = (digit_says k (and_left (digit k) _ a)).1 in
    let ih = spelled_below ks (and_right (digit k) _ a) in
    omega arith

below_some : (n : ℕ) → 1 ≤ below n
unfolding below
below_some zero = omega arith
below_some (suc n) = let ih = below_some n in omega arith

below_more : (m n : ℕ) → m ≤ n → below m ≤ below n
unfolding below
below_more zero n h = below_some n
below_more (suc m) zero h = absurd (omega arith)
below_more (suc m) (suc n) h = let ih = below_more m n (omega arith) in omega arith

-- ---- sets that don't overlap

meet_or : (a b c : ℕ) → eqb (bit_and a (bit_or b c)) 0 ≡ (eqb (bit_and a b) 0 && eqb (bit_and a c) 0)
meet_or a b c =
    same_test _ _
    (λ e.
    let z : (i : ℕ) → bit (bit_and a (bit_or b c)) i ≡ 0 = λ i. ap (λ (s : ℕ). bit s i) (eqb-true _ _ e) ∙ bit_zero i in
    and_both _ _
    (eq-eqb _ _ (set_ext (bit_and a b) 0 (λ i. omega (arith, z i, bit_and_lem a (bit_or b c) i, bit_or_lem b c i, bit_and_lem a b i, bit_zero i))))
    (eq-eqb _ _ (set_ext (bit_and a c) 0 (λ i. omega (arith, z i, bit_and_lem a (bit_or b c) i, bit_or_lem b c i, bit_and_lem a c i, bit_zero i)))))
    (λ e.
    let x : (i : ℕ) → bit (bit_and a b) i ≡ 0 = λ i. ap (λ (s : ℕ). bit s i) (eqb-true _ _ (and_left (eqb (bit_and a b) 0) _ e)) ∙ bit_zero i in
    let y : (i : ℕ) → bit (bit_and a c) i ≡ 0 = λ i. ap (λ (s : ℕ). bit s i) (eqb-true _ _ (and_right (eqb (bit_and a b) 0) _ e)) ∙ bit_zero i in
    eq-eqb _ _
    (set_ext (bit_and a (bit_or b c)) 0
    (λ i. omega (arith, x i, y i, bit_and_lem a (bit_or b c) i, bit_or_lem b c i, bit_and_lem a b i, bit_and_lem a c i, bit_zero i))))

meet_none : (a : ℕ) → bit_and a 0 ≡ 0
meet_none a = set_ext (bit_and a 0) 0 (λ i. omega (arith, bit_and_lem a 0 i, bit_zero i))

meet_together : (a : ℕ) (sets : List ℕ) → eqb (bit_and a (together sets)) 0 ≡ all_of (λ (b : ℕ). eqb (bit_and a b) 0) sets
unfolding together all_of
meet_together a [] = eq-eqb _ _ (meet_none a)
meet_together a (b ∷ sets) = meet_or a b (together sets) ∙ ap (λ (t : Bool). eqb (bit_and a b) 0 && t) (meet_together a sets)

-- ---- faults from one on

abbrev kinds_in : List Fault → List ℕ
kinds_in fs = map (λ (f : Fault). f.kind) fs

abbrev sets_in : List Fault → List ℕ
sets_in fs = map (λ (f : Fault). f.lanes) fs

-- every kind is a digit, and the sets are apart
pub record Tested (fs : List Fault) : Type 0 where
  pub digits : all_of digit (kinds_in fs) ≡ true
  pub sets : apart (sets_in fs) ≡ true

tested_rest : (f : Fault) (fs : List Fault) → Tested (f ∷ fs) → Tested fs
unfolding all_of apart
tested_rest f fs t =
    record {
      digits = and_right (digit f.kind) _ t.digits;
      sets = and_right (all_of (λ (b : ℕ). eqb (bit_and f.lanes b) 0) (sets_in fs)) _ (and_right (not (eqb f.lanes 0)) _ t.sets);
    }

tested_drop : (n : ℕ) (fs : List Fault) → Tested fs → Tested (drop n fs)
tested_drop zero fs t = t
tested_drop (suc n) [] t = t
tested_drop (suc n) (f ∷ fs) t = tested_drop n fs (tested_rest f fs t)

-- one more in front
precedes : (f : Fault) (fs : List Fault) → Tested fs → may_precede f (together (sets_in fs)) ≡ true → Tested (f ∷ fs)
unfolding may_precede all_of apart
precedes f fs t e =
    let D = digit f.kind in
    let N = not (eqb f.lanes 0) in
    let a = and_left (D && N) _ e in
    record {
      digits = and_both D _ (and_left D N a) t.digits;
      sets = and_both N _ (and_right D N a) (and_both _ _ (sym (meet_together f.lanes (sets_in fs)) ∙ and_right (D && N) _ e) t.sets);
    }

preceded : (f : Fault) (fs : List Fault) → Tested (f ∷ fs) → may_precede f (together (sets_in fs)) ≡ true
unfolding may_precede all_of apart
preceded f fs t =
    let D = digit f.kind in
    let N = not (eqb f.lanes 0) in
    let A = all_of (λ (b : ℕ). eqb (bit_and f.lanes b) 0) (sets_in fs) in
    and_both (D && N) _ (and_both D N (and_left D _ t.digits) (and_left N _ t.sets))
    (meet_together f.lanes (sets_in fs) ∙ and_left A _ (and_right N _ t.sets))

-- the page's kinds are digits
page_digits : all_of (all_of digit) kind_lists ≡ true
unfolding all_of kind_lists
page_digits = refl

fit_tested : (fs : List Fault) → faults_fit kind_lists fs ≡ true → Tested fs
unfolding faults_fit
fit_tested fs e =
    let O = one_of (kinds_in fs) kind_lists in
    record { digits = one_all (all_of digit) (kinds_in fs) kind_lists (and_left O _ e) page_digits; sets = and_right O _ e }

-- no list of the table has so many
pub too_many : (fs : List Fault) → most_kinds < length fs → false ≡ faults_fit kind_lists fs
too_many fs h = sym (false_of (faults_fit kind_lists fs) (λ e. let n = page_count fs e in omega arith))

-- ---- the loop's turns: the faults from `left` on are tested, n spells their kinds, and `seen` are their lanes

pub record Testing (fs : List Fault) (left n seen : ℕ) : Type 0 where
  pub here : left ≤ length fs
  pub tested : Tested (drop left fs)
  pub word : n ≡ spelled (kinds_in (drop left fs))
  pub lanes : seen ≡ together (sets_in (drop left fs))

pub testing_start : (fs : List Fault) (left : ℕ) → left ≡ length fs → Testing fs left 0 0
unfolding spelled together all_of apart
testing_start fs left l =
    let e = drop_of_length-le fs {i = left} (omega arith) in
    record {
      here = omega arith;
      tested = rw e (record { digits = refl; sets = refl });
      word = rw e refl;
      lanes = rw e refl;
    }

module _ {fs : List Fault} {left n seen : ℕ} (t : Testing fs left n seen) (some : 0 < left) (f : Fault) (is : f ≡ get_or fs (left - 1) no_fault) where
  from_next : drop (left - 1) fs ≡ f ∷ drop left fs
  from_next =
      let e : suc (left - 1) ≡ left = omega arith in
      drop-cons fs (left - 1) no_fault (omega (arith, t.here)) ∙ ap₂ (λ (g : Fault) (k : ℕ). g ∷ drop k fs) (sym is) e

  pub testing_stop : may_precede f seen ≡ false → false ≡ faults_fit kind_lists fs
  testing_stop e =
      sym (false_of (faults_fit kind_lists fs) λ h.
      let z = tested_drop (left - 1) fs (fit_tested fs h) in
      never (sym e ∙ ap (may_precede f) t.lanes ∙ preceded f (drop left fs) (rw from_next at z)))

  pub testing_next : may_precede f seen ≡ true → Testing fs (left - 1) (16 * n + f.kind) (bit_or f.lanes seen)
  unfolding spelled together
  testing_next e =
      let p = precedes f (drop left fs) t.tested (ap (may_precede f) (sym t.lanes) ∙ e) in
      let w = t.word in
      record {
        here = omega (arith, t.here);
        tested = rw from_next p;
        word = rw from_next (omega arith);
        lanes = rw from_next (ap (bit_or f.lanes) t.lanes);
      }

  -- there is room for one digit more
  pub testing_room : may_precede f seen ≡ true → length fs ≤ most_kinds → 16 * n + f.kind < bound
  unfolding below may_precede
  testing_room e few =
      let D = digit f.kind in
      let N = not (eqb f.lanes 0) in
      let d = (digit_says f.kind (and_left D N (and_left (D && N) _ e))).1 in
      let l = length-map (drop left fs) (λ (f : Fault). f.kind) in
      let m = length-drop left fs in
      let b = spelled_below (kinds_in (drop left fs)) t.tested.digits in
      let c = below_more (length (kinds_in (drop left fs))) (most_kinds - 1) (omega arith) in
      omega (arith, t.word)

pub testing_end : {fs : List Fault} {left n seen : ℕ} → Testing fs left n seen → left ≤ 0 → spells kind_lists n ≡ faults_fit kind_lists fs
unfolding faults_fit
testing_end {fs} {left} {n} {seen} t h =
    let z : left ≡ 0 = omega arith in
    let d : drop left fs ≡ fs = ap (λ (k : ℕ). drop k fs) z in
    let y : Tested fs = rw d at t.tested in
    ap (spells kind_lists) (t.word ∙ ap (λ (l : List Fault). spelled (kinds_in l)) d)
    ∙ spells_one kind_lists (kinds_in fs) page_digits y.digits
    ∙ sym (rw y.sets (and-true _))
