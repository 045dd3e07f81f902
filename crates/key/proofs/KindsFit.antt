-- The kinds of a fault that a step gives are of the layout: they are one of the page's lists, no lane set is empty and none overlap. Which
-- kinds come together is a list; all that are left of it where some have no lanes are the page's.
use mathlib.Core.Path.{◌≡◌, refl, sym, ap, ◌∙◌}
use mathlib.Core.Bool.{Bool, true, false, not, ◌&&◌, ◌||◌}
use mathlib.Core.List.{List, [], ◌∷◌, map}
use Prim.Native.Nat.{ℕ, zero, suc, ◌<◌}
use native.Mathlib.Omega.{arith}
use borrow.Author.Tests.{eq-eqb}
use lib.Bits.{bit_and}
use lib.Dec.{eqb}
use Rattle.ground.specs.Tests.{same_list, one_of, all_of}
use Rattle.ground.proofs.Bools.{never, and_left, and_right, and_both}
use Rattle.ground.proofs.Choices.{cond_by}
use Rattle.lanes.specs.declared.said.Fault.{Fault}
use Rattle.faulting.specs.declared.faults.Faults.{Faults}
use Rattle.faulting.specs.Kinds.{fault, kinds, clear, with_lanes, listed, lanes_of_kind}
use Rattle.faulting.proofs.EveryKind.{up_from, kind_numbers, table, every_table, none_listed, Only, those, only_listed}
use Rattle.faulting.proofs.KindsApart.{Apart, at_device, at_local, dividing}
use Rattle.stepping.proofs.FaultKinds.{Faulty, at_work, at_barrier}
use Rattle.body.specs.Layout.{apart, kind_lists, faults_fit}

-- the kinds, and the lanes, of a list as a body has it
abbrev numbers_in : List Fault → List ℕ
numbers_in xs = map (λ (f : Fault). f.kind) xs

abbrev sets_in : List Fault → List ℕ
sets_in xs = map (λ (f : Fault). f.lanes) xs

-- ---- one of the page's lists

-- a test holds of a list, and of what is left of it without any of its numbers
abbrev of_all_left : (List ℕ → Bool) → List ℕ → Bool
of_all_left p [] = p []
of_all_left p (k ∷ ks) = of_all_left (λ (l : List ℕ). p (k ∷ l)) ks && of_all_left p ks

of_left : (lanes : ℕ → ℕ) (ks : List ℕ) (p : List ℕ → Bool) → of_all_left p ks ≡ true → p (numbers_in (with_lanes (table lanes ks))) ≡ true
of_left lanes [] p h = h
of_left lanes (k ∷ ks) p h =
    let q : List ℕ → Bool = λ (l : List ℕ). p (k ∷ l) in
    cond_by (λ (l : List Fault). p (numbers_in l) ≡ true) (eqb (lanes k) 0) (with_lanes (table lanes ks)) (fault k (lanes k) ∷ with_lanes (table lanes ks))
    (λ e. of_left lanes ks p (and_right (of_all_left q ks) (of_all_left p ks) h))
    (λ e. of_left lanes ks q (and_left (of_all_left q ks) (of_all_left p ks) h))

abbrev is_none : List ℕ → Bool
is_none [] = true
is_none (k ∷ ks) = false

-- the page has it, or there is no kind
abbrev allowed : List ℕ → Bool
allowed ks = is_none ks || one_of ks kind_lists

some_allowed : (xs : List Fault) → (xs ≡ [] → ⊥) → allowed (numbers_in xs) ≡ true → one_of (numbers_in xs) kind_lists ≡ true
some_allowed [] n h = absurd (n refl)
some_allowed (x ∷ xs) n h = h

only_fits : (ks : List ℕ) (f : Faults) → of_all_left allowed (those ks kind_numbers) ≡ true → Only ks f → clear f ≡ false
    → one_of (numbers_in (listed f)) kind_lists ≡ true
only_fits ks f h o c =
    some_allowed (listed f) (λ e. never (sym c ∙ none_listed f e))
    (ap (λ (xs : List Fault). allowed (numbers_in xs)) (only_listed ks f o) ∙ of_left (λ k. lanes_of_kind k f) (those ks kind_numbers) allowed h)

faulty_fits : (f : Faults) → Faulty f → clear f ≡ false → one_of (numbers_in (listed f)) kind_lists ≡ true
unfolding kind_lists one_of same_list
faulty_fits f (at_work (at_device o)) c = only_fits (1 ∷ 2 ∷ 6 ∷ []) f refl o c
faulty_fits f (at_work (at_local o)) c = only_fits (1 ∷ 3 ∷ 6 ∷ []) f refl o c
faulty_fits f (at_work (dividing o)) c = only_fits (4 ∷ []) f refl o c
faulty_fits f (at_barrier o) c = only_fits (5 ∷ []) f refl o c

-- ---- sets that are not empty and don't overlap

module _ (lanes : ℕ → ℕ) (away : (k l : ℕ) → (k ≡ l → ⊥) → bit_and (lanes k) (lanes l) ≡ 0) where
  from_all : (k n c : ℕ) → k < n → all_of (λ (b : ℕ). eqb (bit_and (lanes k) b) 0) (sets_in (with_lanes (table lanes (up_from n c)))) ≡ true
  unfolding all_of
  from_all k n zero h = refl
  from_all k n (suc c) h =
      let rest = with_lanes (table lanes (up_from (suc n) c)) in
      cond_by (λ (l : List Fault). all_of (λ (b : ℕ). eqb (bit_and (lanes k) b) 0) (sets_in l) ≡ true) (eqb (lanes n) 0) rest (fault n (lanes n) ∷ rest)
      (λ e. from_all k (suc n) c (omega arith))
      (λ e. and_both _ _ (eq-eqb _ 0 (away k n (λ z. omega arith))) (from_all k (suc n) c (omega arith)))

  apart_from : (n c : ℕ) → apart (sets_in (with_lanes (table lanes (up_from n c)))) ≡ true
  unfolding apart
  apart_from n zero = refl
  apart_from n (suc c) =
      let rest = with_lanes (table lanes (up_from (suc n) c)) in
      cond_by (λ (l : List Fault). apart (sets_in l) ≡ true) (eqb (lanes n) 0) rest (fault n (lanes n) ∷ rest)
      (λ e. apart_from (suc n) c)
      (λ e. and_both _ _ (ap not e) (and_both _ _ (from_all n (suc n) c (omega arith)) (apart_from (suc n) c)))

pub kinds_fit : (f : Faults) → Faulty f → Apart f → clear f ≡ false → faults_fit kind_lists (listed f) ≡ true
unfolding faults_fit
kinds_fit f y a c =
    and_both (one_of (numbers_in (listed f)) kind_lists) (apart (sets_in (listed f))) (faulty_fits f y c)
    (ap (λ (xs : List Fault). apart (sets_in (with_lanes xs))) (every_table f) ∙ apart_from (λ k. lanes_of_kind k f) a 1 kinds)
