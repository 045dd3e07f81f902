-- The fault kinds: how many have lanes, and those that have, put kind after kind as the loops go.
use mathlib.Core.Path.{◌≡◌, refl, sym, ap, ◌∙◌, subst}
use Prim.Native.Nat.{ℕ, zero, suc, ◌+◌, ◌-◌, ◌*◌, ◌≤◌, ◌<◌}
use mathlib.Core.Bool.{Bool, true, false, cond}
use mathlib.Core.List.{List, [], ◌∷◌, ◌++◌, append-nil, append_assoc, flat_map}
use native.Mathlib.Numerals.{add-one}
use native.Mathlib.Omega.{arith}
use borrow.Author.Tests.{eq-eqb, ne_eqb}
use lib.Dec.{eqb}
use lib.ListN.{length}
use Rattle.ground.specs.Tests.{all_of}
use Rattle.ground.proofs.Bools.{and_both}
use Rattle.ground.proofs.Choices.{cond_by}
use Rattle.numbers.specs.Numbers.{bound}
use Rattle.formats.specs.Format.{number, both, seen_as}
use Rattle.formats.proofs.Sizes.{times_long}
use Rattle.lanes.specs.declared.said.Fault.{Fault}
use Rattle.body.specs.Body.{fault_format, set_bytes}
use Rattle.body.specs.Layout.{fault_bytes}
use Rattle.body.proofs.Formats.{fault_takes}
use Rattle.faulting.specs.declared.faults.Faults.{Faults}
use Rattle.faulting.specs.Kinds.{fault, kinds, with_lanes, listed, lanes_of_kind}
use Rattle.faulting.proofs.EveryKind.{up_from, table, every_table}
use Rattle.key.specs.Putting.{Put, PutAll}
use Rattle.key.proofs.Drafting.{four_fits, put_none, put_one, put_both, put_more}

-- ---- the kinds from k on

abbrev pub from : ℕ → Faults → List Fault
from k f = table (λ j. lanes_of_kind j f) (up_from k (suc kinds - k))

from_next : (f : Faults) (k : ℕ) → k ≤ kinds → from k f ≡ fault k (lanes_of_kind k f) ∷ from (suc k) f
from_next f k h =
    let e : suc kinds - k ≡ suc (suc kinds - suc k) = omega arith in
    ap (λ (c : ℕ). table (λ j. lanes_of_kind j f) (up_from k c)) e

-- ---- the count

count_test : (t : Bool) (f : Fault) (rest : List Fault) → length (cond t rest (f ∷ rest)) ≡ cond t 0 1 + length (rest)
count_test true f rest = omega arith
count_test false f rest = omega arith

-- kinds are counted up to k, and those from k on are left
pub record Counting (f : Faults) (count k : ℕ) : Type 0 where
  pub least : 1 ≤ k
  pub most : k ≤ suc kinds
  pub below : count < k
  pub left : count + length (with_lanes (from k f)) ≡ length (listed f)

pub count_none : (f : Faults) → Counting f 0 1
count_none f =
    record {
      least = omega arith;
      most = omega arith;
      below = omega arith;
      left = omega (arith, ap (λ (xs : List Fault). length (with_lanes xs)) (every_table f));
    }

pub count_next : (f : Faults) (count k one : ℕ) → Counting f count k → k ≤ kinds → one ≡ cond (eqb (lanes_of_kind k f) 0) 0 1 → one ≤ 1
    → Counting f (count + one) (k + 1)
count_next f count k one c h e o =
    let n = ap (λ (xs : List Fault). length (with_lanes xs)) (from_next f k h) in
    let t = count_test (eqb (lanes_of_kind k f) 0) (fault k (lanes_of_kind k f)) (with_lanes (from (suc k) f)) in
    let b = c.below in
    let w = c.left in
    rw add-one
    (record { least = omega arith; most = omega arith; below = omega arith; left = omega (arith, n, t, e, w) })

pub count_all : (f : Faults) (count k : ℕ) → Counting f count k → kinds < k → count ≡ length (listed f)
count_all f count k c h =
    let e : k ≡ suc kinds = omega (arith, c.most) in
    let w : count + length (with_lanes (from (suc kinds) f)) ≡ length (listed f) =
    subst (λ (j : ℕ). count + length (with_lanes (from j f)) ≡ length (listed f)) e c.left in
    omega (arith, w)

-- ---- one kind, put

-- a kind that has lanes, or none
abbrev pub one : ℕ → ℕ → List Fault
one k l = with_lanes (fault k l ∷ [])

kinds_with : (t : Bool) (x : Fault) (rest : List Fault) → cond t rest (x ∷ rest) ≡ cond t [] (x ∷ []) ++ rest
kinds_with true x rest = refl
kinds_with false x rest = refl

length-one : (t : Bool) (x : Fault) → length (cond t [] (x ∷ [])) ≤ 1
length-one true x = omega arith
length-one false x = omega arith

-- the bytes of fault kinds
pub kinds_long : (fs : List Fault) → length (flat_map (fault_format set_bytes).write fs) ≡ fault_bytes set_bytes * length fs
kinds_long = times_long (fault_takes set_bytes)

-- a kind and its lanes, put as two numbers
fault_put : {k l : ℕ} {o now : List ℕ} → Put (both (number 4) (number set_bytes)) (k, l) o now → Put (fault_format set_bytes) (fault k l) o now
unfolding fault_format seen_as
fault_put p = record { fits = p.fits; stands = p.stands }

module _ (k l : ℕ) {o : List ℕ} where
  pub no_kind : l ≡ 0 → PutAll (fault_format set_bytes) (one k l) o o
  no_kind h = simp (eq-eqb l 0 h) put_none

  pub some_kind : {o₁ o₂ : List ℕ} → (l ≡ 0 → ⊥) → Put (number 4) k o o₁ → Put (number 4) l o₁ o₂ → PutAll (fault_format set_bytes) (one k l) o o₂
  some_kind h a b = simp (ne_eqb l 0 h) (put_one (fault_put (put_both a b)))

-- ---- the kinds below k have been put

pub record Kept (f : Faults) (o₀ o : List ℕ) (k : ℕ) : Type 0 where
  pub least : 1 ≤ k
  pub most : k ≤ suc kinds
  pub done : List Fault
  pub put : PutAll (fault_format set_bytes) done o₀ o
  pub whole : done ++ with_lanes (from k f) ≡ listed f

pub kept_none : (f : Faults) (o : List ℕ) → Kept f o o 1
kept_none f o = record { least = omega arith; most = omega arith; done = []; put = put_none; whole = ap with_lanes (sym (every_table f)) }

pub kept_next : (f : Faults) (o₀ o o₁ : List ℕ) (k : ℕ) → Kept f o₀ o k → k ≤ kinds → (l : ℕ) → l ≡ lanes_of_kind k f
    → PutAll (fault_format set_bytes) (one k l) o o₁ → Kept f o₀ o₁ (k + 1)
kept_next f o₀ o o₁ k h b l e p =
    let next : with_lanes (from k f) ≡ one k l ++ with_lanes (from (suc k) f) =
    ap with_lanes (from_next f k b) ∙ kinds_with (eqb (lanes_of_kind k f) 0) _ _ ∙ rw (← e) refl in
    rw add-one
    (record {
      least = omega arith;
      most = omega arith;
      done = h.done ++ one k l;
      put = put_more h.put p;
      whole = append_assoc h.done (one k l) (with_lanes (from (suc k) f)) ∙ ap (λ (r : List Fault). h.done ++ r) (sym next) ∙ h.whole;
    })

pub kept_all : (f : Faults) (o₀ o : List ℕ) (k : ℕ) → Kept f o₀ o k → kinds < k → PutAll (fault_format set_bytes) (listed f) o₀ o
kept_all f o₀ o k h b =
    let e : k ≡ suc kinds = omega (arith, h.most) in
    let d : h.done ≡ listed f = sym (append-nil h.done) ∙ ap (λ (j : ℕ). h.done ++ with_lanes (from j f)) (sym e) ∙ h.whole in
    subst (λ (fs : List Fault). PutAll (fault_format set_bytes) fs o₀ o) d h.put

-- ---- room for them all

room_table : (lanes : ℕ → ℕ) → ((k : ℕ) → lanes k < bound) → (n c : ℕ) → n + c ≤ bound
    → all_of (fault_format set_bytes).fits (with_lanes (table lanes (up_from n c))) ≡ true
unfolding all_of fault_format seen_as both
room_table lanes h n zero b = refl
room_table lanes h n (suc c) b =
    let rest = room_table lanes h (suc n) c (omega arith) in
    cond_by (λ (fs : List Fault). all_of (fault_format set_bytes).fits fs ≡ true) (eqb (lanes n) 0) _ _ (λ t. rest)
    (λ t. and_both _ _ (and_both ((number 4).fits n) _ (four_fits n (omega arith)) (four_fits (lanes n) (h n))) rest)

-- where the lanes of every kind are below 2^32
pub kinds_room : (f : Faults) → ((k : ℕ) → lanes_of_kind k f < bound) → all_of (fault_format set_bytes).fits (listed f) ≡ true
kinds_room f h =
    subst (λ (xs : List Fault). all_of (fault_format set_bytes).fits (with_lanes xs) ≡ true) (sym (every_table f))
    (room_table (λ k. lanes_of_kind k f) h 1 kinds (omega arith))
