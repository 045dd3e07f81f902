-- The lanes of each kind: they execute, they are lanes of the wave, no lane is of two kinds; and which kinds come together.
use mathlib.Core.Path.{◌≡◌, refl, sym, ◌∙◌, subst}
use mathlib.Core.Bool.{Bool, true, false, ◌&&◌, cond}
use mathlib.Core.List.{List, [], ◌∷◌}
use Prim.Native.Nat.{ℕ, suc, ◌<◌}
use lib.Bits.{bit_and, and_zero_l, and_zero_r}
use lib.Dec.{eqb, ltb}
use borrow.Author.Tests.{ltb-true, eqb-true}
use Rattle.ground.proofs.Bools.{never, and_left, and_right}
use Rattle.ground.proofs.Choices.{cond_by}
use Rattle.lanes.specs.Sets.{has}
use Rattle.lanes.proofs.Members.{has_and, has_zero, has_ext}
use Rattle.instructions.specs.declared.instr.Space.{Space}
use Rattle.arith.specs.Arith.{address_of}
use Rattle.faulting.specs.declared.faults.Faults.{Faults}
use Rattle.faulting.specs.Kinds.{past_kind, of_kinds, lanes_of_kind, no_faults, of_barrier}
use Rattle.faulting.specs.Causes.{is_odd, is_past, is_over, address_fault, sum_fault, divisor_fault, fault_lanes, kinds_of}
use Rattle.faulting.proofs.EveryKind.{of_each_kind, is_in, not_first, not_rest, Only}
use Rattle.faulting.proofs.FaultKinds.{has_fault, no_kinds, kind_by, no_other, none_but_divisors}

-- ---- the lanes of one kind

module _ (W t : ℕ) (kind : ℕ → ℕ) (k i : ℕ) (h : has (fault_lanes W t kind k) i ≡ true) where
  told : (ltb i W && (has t i && eqb (kind i) k)) ≡ true
  told = sym (has_fault W t kind k i) ∙ h

  kind_below : i < W
  kind_below = ltb-true i W (and_left _ (has t i && eqb (kind i) k) told)

  kind_executes : has t i ≡ true
  kind_executes = and_left (has t i) (eqb (kind i) k) (and_right (ltb i W) _ told)

  kind_is : kind i ≡ k
  kind_is = eqb-true (kind i) k (and_right (has t i) (eqb (kind i) k) (and_right (ltb i W) _ told))

-- every lane of a set is a lane of the wave that executes
abbrev pub Within : ℕ → ℕ → ℕ → Type 0
Within W t set = (i : ℕ) → has set i ≡ true → (i < W) × (has t i ≡ true)

kind_within : (W t : ℕ) (kind : ℕ → ℕ) (k : ℕ) → Within W t (fault_lanes W t kind k)
kind_within W t kind k i h = (kind_below W t kind k i h, kind_executes W t kind k i h)

none_within : (W t : ℕ) → Within W t 0
none_within W t i h = never (sym (has_zero i) ∙ h)

pub kinds_within : (W t : ℕ) (kind : ℕ → ℕ) (k : ℕ) → Within W t (lanes_of_kind k (kinds_of W t kind))
kinds_within W t kind =
    of_each_kind (λ (j set : ℕ). Within W t set) (fault_lanes W t kind) (λ j. kind_within W t kind (suc j)) (λ j. none_within W t)

pub no_faults_within : (W t k : ℕ) → Within W t (lanes_of_kind k no_faults)
no_faults_within W t = of_each_kind (λ (j set : ℕ). Within W t set) (λ j. 0) (λ j. none_within W t) (λ j. none_within W t)

-- ---- no lane is of two kinds

abbrev pub Apart : Faults → Type 0
Apart f = (k l : ℕ) → (k ≡ l → ⊥) → bit_and (lanes_of_kind k f) (lanes_of_kind l f) ≡ 0

-- of sets that are apart, number by number
apart_by : (lanes : ℕ → ℕ) → ((k l : ℕ) → (suc k ≡ suc l → ⊥) → bit_and (lanes (suc k)) (lanes (suc l)) ≡ 0) → Apart (of_kinds lanes)
apart_by lanes h =
    of_each_kind (λ (k a : ℕ). (l : ℕ) → (k ≡ l → ⊥) → bit_and a (lanes_of_kind l (of_kinds lanes)) ≡ 0) lanes
    (λ k.
    of_each_kind (λ (l b : ℕ). (suc k ≡ l → ⊥) → bit_and (lanes (suc k)) b ≡ 0) lanes (λ l n. h k l n) (λ l n. and_zero_r (lanes (suc k))))
    (λ k l n. and_zero_l (lanes_of_kind l (of_kinds lanes)))

one_kind : (W t : ℕ) (kind : ℕ → ℕ) (k l : ℕ) → (k ≡ l → ⊥) → bit_and (fault_lanes W t kind k) (fault_lanes W t kind l) ≡ 0
one_kind W t kind k l n =
    has_ext (bit_and (fault_lanes W t kind k) (fault_lanes W t kind l)) 0
    (λ i. has_and (fault_lanes W t kind k) (fault_lanes W t kind l) i
    ∙ neither (has (fault_lanes W t kind k) i) (has (fault_lanes W t kind l) i) (λ a b. n (sym (kind_is W t kind k i a) ∙ kind_is W t kind l i b))
    ∙ sym (has_zero i))
  where
    neither : (a b : Bool) → (a ≡ true → b ≡ true → ⊥) → (a && b) ≡ false
    neither true true f = absurd (f refl refl)
    neither true false f = refl
    neither false b f = refl

pub kinds_apart : (W t : ℕ) (kind : ℕ → ℕ) → Apart (kinds_of W t kind)
kinds_apart W t kind = apart_by (fault_lanes W t kind) (λ k l n. one_kind W t kind (suc k) (suc l) n)

pub no_faults_apart : Apart no_faults
no_faults_apart = apart_by (λ k. 0) (λ k l n. and_zero_l 0)

pub barrier_apart : (lanes : ℕ) → Apart (of_barrier lanes)
barrier_apart lanes =
    apart_by (λ k. cond (eqb k 5) lanes 0)
    (λ k l n.
    cond_by (λ (a : ℕ). bit_and a (cond (eqb (suc l) 5) lanes 0) ≡ 0) (eqb (suc k) 5) lanes 0
    (λ e.
    cond_by (λ (b : ℕ). bit_and lanes b ≡ 0) (eqb (suc l) 5) lanes 0
    (λ f. absurd (n (eqb-true (suc k) 5 e ∙ sym (eqb-true (suc l) 5 f))))
    (λ f. and_zero_r lanes))
    (λ e. and_zero_l (cond (eqb (suc l) 5) lanes 0)))

-- ---- the kinds that come together: 1 and 6 with 2, 1 and 6 with 3, or 4 alone

pub data Form (f : Faults) : Type 0 where
  at_device : Only (1 ∷ 2 ∷ 6 ∷ []) f → Form f
  at_local : Only (1 ∷ 3 ∷ 6 ∷ []) f → Form f
  dividing : Only (4 ∷ []) f → Form f

none_only : (ks : List ℕ) → Only ks no_faults
none_only ks = of_each_kind (λ (k set : ℕ). is_in k ks ≡ false → set ≡ 0) (λ k. 0) (λ k h. refl) (λ k h. refl)

pub no_faults_form : Form no_faults
no_faults_form = dividing (none_only (4 ∷ []))

pub unfaulted_form : (W t : ℕ) → Form (kinds_of W t (λ i. 0))
unfaulted_form W t = subst Form (no_kinds W t (λ i. 0) (λ i b. refl)) no_faults_form

-- the kinds of addresses that are over, odd and past their memory as told
address_only : (s : Space) (W t : ℕ) (over odd past : ℕ → Bool)
    → Only (1 ∷ past_kind s ∷ 6 ∷ []) (kinds_of W t (λ i. kind_by s (over i) (odd i) (past i)))
address_only s W t over odd past =
    of_each_kind (λ (k set : ℕ). is_in k (1 ∷ past_kind s ∷ 6 ∷ []) ≡ false → set ≡ 0) (fault_lanes W t _)
    (λ k h.
    let past-or-over = not_rest (suc k) 1 (past_kind s ∷ 6 ∷ []) h in
    no_other W t s over odd past k (not_first (suc k) 6 [] (not_rest (suc k) (past_kind s) (6 ∷ []) past-or-over))
    (not_first (suc k) 1 (past_kind s ∷ 6 ∷ []) h) (not_first (suc k) (past_kind s) (6 ∷ []) past-or-over))
    (λ k h. refl)

form_at : (s : Space) (W t : ℕ) (over odd past : ℕ → Bool) → Form (kinds_of W t (λ i. kind_by s (over i) (odd i) (past i)))
form_at Space.Device W t over odd past = at_device (address_only Space.Device W t over odd past)
form_at Space.Local W t over odd past = at_local (address_only Space.Local W t over odd past)

-- of addresses, and of bases with an offset
pub address_form : (s : Space) (W t words : ℕ) (at : ℕ → ℕ) → Form (kinds_of W t (λ i. address_fault s words (at i)))
address_form s W t words at = form_at s W t (λ i. false) (λ i. is_odd (at i)) (λ i. is_past words (at i))

pub sum_form : (s : Space) (W t words offset : ℕ) (base : ℕ → ℕ) → Form (kinds_of W t (λ i. sum_fault s words (base i) offset))
sum_form s W t words offset base =
    form_at s W t (λ i. is_over (base i) offset) (λ i. is_odd (address_of (base i) offset)) (λ i. is_past words (address_of (base i) offset))

pub divisor_form : (W t : ℕ) (at : ℕ → ℕ) → Form (kinds_of W t (λ i. divisor_fault (at i)))
divisor_form W t at =
    dividing
    (of_each_kind (λ (k set : ℕ). is_in k (4 ∷ []) ≡ false → set ≡ 0) (fault_lanes W t _)
    (λ k h. none_but_divisors W t at k (not_first (suc k) 4 [] h)) (λ k h. refl))
