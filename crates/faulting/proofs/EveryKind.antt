-- Every kind with its lanes, by the kinds' numbers: the list of any faults is a table of its numbers, 1 to the count of kinds, and each law
-- is an induction over these.
use mathlib.Core.Path.{◌≡◌, refl, sym, ap, ◌∙◌, subst}
use mathlib.Core.Bool.{Bool, true, false, ◌&&◌, ◌||◌, cond, and-true}
use mathlib.Core.List.{List, [], ◌∷◌}
use Prim.Native.Nat.{ℕ, zero, suc, ◌+◌, ◌-◌, ◌≤◌, ◌<◌}
use native.Mathlib.Omega.{arith}
use lib.Dec.{eqb}
use lib.ListN.{length, get_or}
use borrow.Author.Tests.{eq-eqb, eqb-true, ne_eqb}
use Rattle.ground.proofs.Bools.{never, and_left, and_right}
use Rattle.ground.proofs.Choices.{cond_by}
use Rattle.faulting.specs.declared.faults.Faults.{Faults}
use Rattle.faulting.specs.Kinds.{fault, kinds, every, of_kinds, no_faults, of_barrier, no_lanes, clear, with_lanes, listed, lanes_among, lanes_of_kind}
use Rattle.lanes.specs.declared.said.Fault.{Fault}

-- ---- the kinds' numbers

-- c numbers from n on
abbrev pub up_from : ℕ → ℕ → List ℕ
up_from n zero = []
up_from n (suc c) = n ∷ up_from (suc n) c

abbrev pub kind_numbers : List ℕ
kind_numbers = up_from 1 kinds

-- the lanes `lanes k` of each kind k of a list
abbrev pub table : (ℕ → ℕ) → List ℕ → List Fault
table lanes [] = []
table lanes (k ∷ ks) = fault k (lanes k) ∷ table lanes ks

-- any faults are those of their lanes by number
pub every_table : (f : Faults) → every f ≡ table (λ k. lanes_of_kind k f) kind_numbers
unfolding lanes_among
every_table f = refl

pub faults_told : (f : Faults) → of_kinds (λ k. lanes_of_kind k f) ≡ f
unfolding lanes_among
faults_told f = refl

-- faults whose lanes agree, kind by kind
module _ (f g : ℕ → ℕ) (same : (k : ℕ) → f (suc k) ≡ g (suc k)) where
  abbrev numbered : (ℕ → ℕ) → ℕ → ℕ
  numbered h zero = 0
  numbered h (suc k) = h (suc k)

  numbered_same : (k : ℕ) → numbered f k ≡ numbered g k
  numbered_same zero = refl
  numbered_same (suc k) = same k

  pub faults_same : of_kinds f ≡ of_kinds g
  faults_same = λ i. of_kinds (λ k. numbered_same k i)

-- kind by kind, of the kinds that there are
pub each_same : (f g : ℕ → ℕ) → ((k : ℕ) → 1 ≤ k → k ≤ kinds → f k ≡ g k) → of_kinds f ≡ of_kinds g
each_same f g same =
    λ i.
    record {
      odd = same 1 (omega arith) (omega arith) i;
      device = same 2 (omega arith) (omega arith) i;
      local = same 3 (omega arith) (omega arith) i;
      divisor = same 4 (omega arith) (omega arith) i;
      barrier = same 5 (omega arith) (omega arith) i;
      over = same 6 (omega arith) (omega arith) i;
    }

-- ---- the lanes of a kind

in_table : (P : ℕ → Type 0) (lanes : ℕ → ℕ) (k : ℕ) → P (lanes k) → P 0 → (ks : List ℕ) → P (lanes_among k (table lanes ks))
unfolding lanes_among
in_table P lanes k p z [] = z
in_table P lanes k p z (j ∷ ks) =
    cond_by P (eqb j k) (lanes j) (lanes_among k (table lanes ks)) (λ e. subst (λ (n : ℕ). P (lanes n)) (sym (eqb-true j k e)) p)
    (λ e. in_table P lanes k p z ks)

-- what holds of no lanes and of the lanes of each number holds of the lanes of any kind
pub of_each_kind : (P : ℕ → ℕ → Type 0) (lanes : ℕ → ℕ) → ((k : ℕ) → P (suc k) (lanes (suc k))) → ((k : ℕ) → P k 0)
    → (k : ℕ) → P k (lanes_of_kind k (of_kinds lanes))
unfolding lanes_among
of_each_kind P lanes p z zero = z 0
of_each_kind P lanes p z (suc k) = in_table (P (suc k)) lanes (suc k) (p k) (z (suc k)) kind_numbers

-- a number that a table doesn't have, below it or above it
below_table : (lanes : ℕ → ℕ) (k n c : ℕ) → k < n → lanes_among k (table lanes (up_from n c)) ≡ 0
unfolding lanes_among
below_table lanes k n zero h = refl
below_table lanes k n (suc c) h = rw (ne_eqb n k (λ e. omega arith)) (below_table lanes k (suc n) c (omega arith))

above_table : (lanes : ℕ → ℕ) (k n c : ℕ) → n + c ≤ k → lanes_among k (table lanes (up_from n c)) ≡ 0
unfolding lanes_among
above_table lanes k n zero h = refl
above_table lanes k n (suc c) h = rw (ne_eqb n k (λ e. omega arith)) (above_table lanes k (suc n) c (omega arith))

-- no kind has number 0, and none a number above their count
pub no_low_kind : (k : ℕ) (f : Faults) → k < 1 → lanes_of_kind k f ≡ 0
no_low_kind k f h = ap (lanes_among k) (every_table f) ∙ below_table (λ j. lanes_of_kind j f) k 1 kinds h

pub no_high_kind : (k : ℕ) (f : Faults) → kinds < k → lanes_of_kind k f ≡ 0
no_high_kind k f h = ap (lanes_among k) (every_table f) ∙ above_table (λ j. lanes_of_kind j f) k 1 kinds (omega arith)

-- the lanes alone, kind by kind, and those of one
abbrev values : (ℕ → ℕ) → List ℕ → List ℕ
values lanes [] = []
values lanes (k ∷ ks) = lanes k ∷ values lanes ks

value_at : (lanes : ℕ → ℕ) (n c j : ℕ) → j < c → get_or (values lanes (up_from n c)) j 0 ≡ lanes (n + j)
value_at lanes n zero j h = absurd (omega arith)
value_at lanes n (suc c) zero h = let e : n + 0 ≡ n = omega arith in rw e refl
value_at lanes n (suc c) (suc j) h = let e : n + suc j ≡ suc n + j = omega arith in rw e (value_at lanes (suc n) c j (omega arith))

pub lanes_at : (f : Faults) (k : ℕ) → 1 ≤ k → k ≤ kinds
    → get_or (f.odd ∷ f.device ∷ f.local ∷ f.divisor ∷ f.barrier ∷ f.over ∷ []) (k - 1) 0 ≡ lanes_of_kind k f
unfolding lanes_among
lanes_at f k a b =
    let e : 1 + (k - 1) ≡ k = omega arith in
    value_at (λ j. lanes_of_kind j f) 1 kinds (k - 1) (omega arith) ∙ ap (λ (j : ℕ). lanes_of_kind j f) e

-- ---- the kinds that have lanes

-- they are at most all
with_lanes_few : (xs : List Fault) → length (with_lanes xs) ≤ length xs
with_lanes_few [] = omega arith
with_lanes_few (x ∷ xs) =
    cond_by (λ (l : List Fault). length l ≤ length (x ∷ xs)) (eqb x.lanes 0) (with_lanes xs) (x ∷ with_lanes xs)
    (λ e. omega (arith, with_lanes_few xs)) (λ e. omega (arith, with_lanes_few xs))

pub few_listed : (f : Faults) → length (listed f) ≤ kinds
few_listed f = with_lanes_few (every f)

-- they tell the lanes of every kind
told_by : (lanes : ℕ → ℕ) (k n c : ℕ) (a b : Bool) → eqb (lanes n) 0 ≡ a → eqb n k ≡ b
    → let rest = table lanes (up_from (suc n) c) in lanes_among k (with_lanes rest) ≡ lanes_among k rest
    → lanes_among k (cond a (with_lanes rest) (fault n (lanes n) ∷ with_lanes rest)) ≡ cond b (lanes n) (lanes_among k rest)
unfolding lanes_among
told_by lanes k n c true true e f h =
    let s : n ≡ k = eqb-true n k f in
    h ∙ below_table lanes k (suc n) c (omega arith) ∙ sym (eqb-true (lanes n) 0 e)
told_by lanes k n c true false e f h = h
told_by lanes k n c false b e f h = rw (f, h) refl

told_in : (lanes : ℕ → ℕ) (k n c : ℕ) → lanes_among k (with_lanes (table lanes (up_from n c))) ≡ lanes_among k (table lanes (up_from n c))
unfolding lanes_among
told_in lanes k n zero = refl
told_in lanes k n (suc c) = told_by lanes k n c (eqb (lanes n) 0) (eqb n k) refl refl (told_in lanes k (suc n) c)

pub listed_tells : (k : ℕ) (f : Faults) → lanes_among k (listed f) ≡ lanes_of_kind k f
listed_tells k f =
    ap (λ (xs : List Fault). lanes_among k (with_lanes xs)) (every_table f)
    ∙ told_in (λ j. lanes_of_kind j f) k 1 kinds
    ∙ ap (lanes_among k) (sym (every_table f))

-- THE LIST TELLS THE FAULTS
pub one_faults : (f g : Faults) → listed f ≡ listed g → f ≡ g
one_faults f g e =
    sym (faults_told f)
    ∙ faults_same (λ k. lanes_of_kind k f) (λ k. lanes_of_kind k g)
    (λ k. sym (listed_tells (suc k) f) ∙ ap (lanes_among (suc k)) e ∙ listed_tells (suc k) g)
    ∙ faults_told g

-- where none has lanes no lane faults
none_by : (x : Fault) (a all : Bool) (xs : List Fault) → cond a xs (x ∷ xs) ≡ [] → (xs ≡ [] → all ≡ true) → (a && all) ≡ true
none_by x true all xs e h = h e
none_by x false all xs e h = absurd (no_cons e)
  where
    no_cons : x ∷ xs ≡ [] → ⊥
    no_cons e = let z : ◌≡◌ {A = ℕ} 0 1 = cc in omega arith

none_in : (xs : List Fault) → with_lanes xs ≡ [] → no_lanes xs ≡ true
none_in [] e = refl
none_in (x ∷ xs) e = none_by x (eqb x.lanes 0) (no_lanes xs) (with_lanes xs) e (none_in xs)

pub none_listed : (f : Faults) → listed f ≡ [] → clear f ≡ true
none_listed f e = none_in (every f) e

-- and where no lane faults no kind has lanes
pub clear_none : (f : Faults) → clear f ≡ true → f ≡ no_faults
clear_none f e =
    let odd = and_right (eqb f.odd 0) _ e in
    let device = and_right (eqb f.device 0) _ odd in
    let local = and_right (eqb f.local 0) _ device in
    let divisor = and_right (eqb f.divisor 0) _ local in
    let barrier = and_right (eqb f.barrier 0) _ divisor in
    λ i.
    record {
      odd = eqb-true f.odd 0 (and_left _ _ e) i;
      device = eqb-true f.device 0 (and_left _ _ odd) i;
      local = eqb-true f.local 0 (and_left _ _ device) i;
      divisor = eqb-true f.divisor 0 (and_left _ _ local) i;
      barrier = eqb-true f.barrier 0 (and_left _ _ divisor) i;
      over = eqb-true f.over 0 (and_left _ _ barrier) i;
    }

-- a barrier's fault is clear where it has no lanes
pub barrier_clear : (lanes : ℕ) → clear (of_barrier lanes) ≡ eqb lanes 0
barrier_clear lanes = and-true (eqb lanes 0)

-- ---- faults of some kinds alone

-- a number of a list
abbrev pub is_in : ℕ → List ℕ → Bool
is_in k [] = false
is_in k (j ∷ js) = eqb k j || is_in k js

none_of : (a b : Bool) → (a || b) ≡ false → (a ≡ false) × (b ≡ false)
none_of true b e = never (sym e)
none_of false b e = (refl, e)

pub not_first : (k j : ℕ) (js : List ℕ) → is_in k (j ∷ js) ≡ false → k ≡ j → ⊥
not_first k j js h e = never (sym (none_of (eqb k j) (is_in k js) h).0 ∙ eq-eqb k j e)

pub not_rest : (k j : ℕ) (js : List ℕ) → is_in k (j ∷ js) ≡ false → is_in k js ≡ false
not_rest k j js h = (none_of (eqb k j) (is_in k js) h).1

-- every lane that faults is of one of these kinds
abbrev pub Only : List ℕ → Faults → Type 0
Only ks f = (k : ℕ) → is_in k ks ≡ false → lanes_of_kind k f ≡ 0

-- the numbers of a list that are among these
abbrev pub those : List ℕ → List ℕ → List ℕ
those ks [] = []
those ks (j ∷ js) = cond (is_in j ks) (j ∷ those ks js) (those ks js)

only_by : (lanes : ℕ → ℕ) (j : ℕ) (js ks : List ℕ) (a : Bool) → (a ≡ false → lanes j ≡ 0)
    → with_lanes (table lanes js) ≡ with_lanes (table lanes ks)
    → with_lanes (table lanes (j ∷ js)) ≡ with_lanes (table lanes (cond a (j ∷ ks) ks))
only_by lanes j js ks true z h = ap (λ (l : List Fault). cond (eqb (lanes j) 0) l (fault j (lanes j) ∷ l)) h
only_by lanes j js ks false z h = rw (z refl) h

only_in : (ks : List ℕ) (lanes : ℕ → ℕ) → ((k : ℕ) → is_in k ks ≡ false → lanes k ≡ 0) → (js : List ℕ)
    → with_lanes (table lanes js) ≡ with_lanes (table lanes (those ks js))
only_in ks lanes h [] = refl
only_in ks lanes h (j ∷ js) = only_by lanes j js (those ks js) (is_in j ks) (h j) (only_in ks lanes h js)

-- only these are listed
pub only_listed : (ks : List ℕ) (f : Faults) → Only ks f → listed f ≡ with_lanes (table (λ k. lanes_of_kind k f) (those ks kind_numbers))
only_listed ks f h = ap with_lanes (every_table f) ∙ only_in ks (λ k. lanes_of_kind k f) h kind_numbers

-- a barrier's kind is 5
pub barrier_only : (lanes : ℕ) → Only (5 ∷ []) (of_barrier lanes)
barrier_only lanes =
    of_each_kind (λ (k set : ℕ). is_in k (5 ∷ []) ≡ false → set ≡ 0) (λ k. cond (eqb k 5) lanes 0)
    (λ k h. rw (ne_eqb (suc k) 5 (not_first (suc k) 5 [] h)) refl) (λ k h. refl)

pub barrier_lanes_lem : (P : ℕ → Type 0) (lanes : ℕ) → P lanes → P 0 → (k : ℕ) → P (lanes_of_kind k (of_barrier lanes))
barrier_lanes_lem P lanes p z =
    of_each_kind (λ (k set : ℕ). P set) (λ k. cond (eqb k 5) lanes 0)
    (λ k. cond_by P (eqb (suc k) 5) lanes 0 (λ e. p) (λ e. z)) (λ k. z)
