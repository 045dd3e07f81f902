-- The lanes of each kind, of the tests that the code makes: a lane's kind is one number, so that a test of each kind tells the lanes.
use mathlib.Core.Path.{◌≡◌, refl, sym, ap, ◌∙◌}
use mathlib.Core.Bool.{Bool, true, false, ◌&&◌, cond, and-false}
use mathlib.Core.Logic.{dite}
use Prim.Native.Nat.{ℕ, suc, ◌^◌, ◌<◌, min}
use native.Mathlib.Decide.{dec_lt}
use native.Mathlib.Omega.{arith}
use lib.Dec.{eqb, ltb}
use borrow.Author.Tests.{eq-eqb, eqb-true, ne_eqb, lt-ltb, le-ltb}
use Rattle.ground.proofs.Bools.{never}
use Rattle.ground.proofs.Choices.{cond_by}
use Rattle.lanes.specs.Sets.{widest, has, set_of}
use Rattle.lanes.proofs.Bits.{set_of_same}
use Rattle.lanes.proofs.Members.{has_set_of, has_past, has_ext}
use Rattle.lanes.proofs.Picking.{set_of_none}
use Rattle.instructions.specs.declared.instr.Space.{Space}
use Rattle.faulting.specs.declared.faults.Faults.{Faults}
use Rattle.faulting.specs.Kinds.{past_kind, no_faults, of_divisors}
use Rattle.faulting.specs.Causes.{divisor_fault, fault_lanes, kinds_of}
use Rattle.faulting.proofs.EveryKind.{faults_same}

-- the lanes of a kind, by a test
pub lanes_by : (W t : ℕ) (kind : ℕ → ℕ) (k : ℕ) (p : ℕ → Bool) → ((i : ℕ) → i < W → eqb (kind i) k ≡ p i)
    → fault_lanes W t kind k ≡ set_of W (λ i. has t i && p i)
unfolding fault_lanes
lanes_by W t kind k p h = set_of_same W _ _ (λ i b. ap (λ (q : Bool). has t i && q) (h i b))

lanes_same : (W t : ℕ) (f g : ℕ → ℕ) (k : ℕ) → ((i : ℕ) → i < W → f i ≡ g i) → fault_lanes W t f k ≡ fault_lanes W t g k
unfolding fault_lanes
lanes_same W t f g k h = lanes_by W t f k (λ i. eqb (g i) k) (λ i b. ap (λ (x : ℕ). eqb x k) (h i b))

-- no lane executes
pub lanes_idle : (W t : ℕ) (kind : ℕ → ℕ) (k : ℕ) → ((i : ℕ) → has t i ≡ false) → fault_lanes W t kind k ≡ 0
unfolding fault_lanes
lanes_idle W t kind k h = set_of_none W _ (λ i b. rw (h i) refl)

-- no lane has a kind
pub lanes_none : (W t : ℕ) (kind : ℕ → ℕ) (k : ℕ) → ((i : ℕ) → i < W → eqb (kind i) k ≡ false) → fault_lanes W t kind k ≡ 0
unfolding fault_lanes
lanes_none W t kind k h = set_of_none W _ (λ i b. ap (λ (q : Bool). has t i && q) (h i b) ∙ and-false (has t i))

-- the lanes of a kind are below W, execute, and are told by the lane's number
pub has_fault : (W t : ℕ) (kind : ℕ → ℕ) (k i : ℕ) → has (fault_lanes W t kind k) i ≡ (ltb i W && (has t i && eqb (kind i) k))
unfolding fault_lanes
has_fault W t kind k i = has_set_of W (λ j. has t j && eqb (kind j) k) i

-- kinds that agree below W
pub kinds_same : (W t : ℕ) (f g : ℕ → ℕ) → ((i : ℕ) → i < W → f i ≡ g i) → kinds_of W t f ≡ kinds_of W t g
kinds_same W t f g h = faults_same (fault_lanes W t f) (fault_lanes W t g) (λ k. lanes_same W t f g (suc k) h)

-- no lane has a kind, and none executes
pub no_kinds : (W t : ℕ) (kind : ℕ → ℕ) → ((i : ℕ) → i < W → kind i ≡ 0) → no_faults ≡ kinds_of W t kind
no_kinds W t kind h =
    faults_same (λ k. 0) (fault_lanes W t kind) (λ k. sym (lanes_none W t kind (suc k) (λ i b. rw (h i b) (ne_eqb 0 (suc k) (λ e. omega arith)))))

-- no set has a lane past the widest wave's
narrow_lanes : (W t : ℕ) (kind : ℕ → ℕ) (k : ℕ) → t < 2 ^ widest → fault_lanes (min W widest) t kind k ≡ fault_lanes W t kind k
narrow_lanes W t kind k b =
    has_ext (fault_lanes (min W widest) t kind k) (fault_lanes W t kind k)
    (λ i. has_fault (min W widest) t kind k i ∙ here i ∙ sym (has_fault W t kind k i))
  where
    here : (i : ℕ) → (ltb i (min W widest) && (has t i && eqb (kind i) k)) ≡ (ltb i W && (has t i && eqb (kind i) k))
    here i =
        dite (dec_lt i widest)
        (λ l. dite (dec_lt i W)
        (λ h. rw (lt-ltb i W h, lt-ltb i (min W widest) (omega arith)) refl)
        (λ h. rw (le-ltb i W (omega arith), le-ltb i (min W widest) (omega arith)) refl))
        (λ l. rw (has_past widest t i b (omega arith), and-false, and-false) refl)

pub narrow_kinds : (W t : ℕ) (kind : ℕ → ℕ) (narrow : ℕ) → narrow ≡ min W widest → t < 2 ^ widest → kinds_of narrow t kind ≡ kinds_of W t kind
narrow_kinds W t kind narrow e b =
    ap (λ (n : ℕ). kinds_of n t kind) e
    ∙ faults_same (fault_lanes (min W widest) t kind) (fault_lanes W t kind) (λ k. narrow_lanes W t kind (suc k) b)

pub idle_kinds : (W t : ℕ) (kind : ℕ → ℕ) → ((i : ℕ) → has t i ≡ false) → kinds_of W t kind ≡ no_faults
idle_kinds W t kind h = faults_same (fault_lanes W t kind) (λ k. 0) (λ k. lanes_idle W t kind (suc k) h)

-- ---- addresses

-- the kind of an address, by its three tests
abbrev pub kind_by : Space → Bool → Bool → Bool → ℕ
kind_by s over odd past = cond over 6 (cond odd 1 (cond past (past_kind s) 0))

-- it is no other
other_kind : (s : Space) (over odd past : Bool) (k : ℕ) → (suc k ≡ 6 → ⊥) → (suc k ≡ 1 → ⊥) → (suc k ≡ past_kind s → ⊥)
    → eqb (kind_by s over odd past) (suc k) ≡ false
other_kind s true odd past k a b c = ne_eqb 6 (suc k) (λ e. a (sym e))
other_kind s false true past k a b c = ne_eqb 1 (suc k) (λ e. b (sym e))
other_kind s false false true k a b c = ne_eqb (past_kind s) (suc k) (λ e. c (sym e))
other_kind s false false false k a b c = ne_eqb 0 (suc k) (λ e. omega arith)

no_past : (s : Space) (k : ℕ) → 3 < k → k ≡ past_kind s → ⊥
no_past Space.Device k h e = omega arith
no_past Space.Local k h e = omega arith

-- the kinds that addresses have, by the memory and which of them are over, odd and past it
module _ (W t : ℕ) (s : Space) (is_over is_odd is_past : ℕ → Bool) where
  abbrev kind_in : ℕ → ℕ
  kind_in i = kind_by s (is_over i) (is_odd i) (is_past i)

  pub no_other : (k : ℕ) → (suc k ≡ 6 → ⊥) → (suc k ≡ 1 → ⊥) → (suc k ≡ past_kind s → ⊥) → fault_lanes W t kind_in (suc k) ≡ 0
  no_other k a b c = lanes_none W t _ (suc k) (λ i l. other_kind s (is_over i) (is_odd i) (is_past i) k a b c)

  -- so the lanes of these four are all
  pub four_kinds : (over odd device local : ℕ) → over ≡ fault_lanes W t kind_in 6 → odd ≡ fault_lanes W t kind_in 1
      → device ≡ fault_lanes W t kind_in 2 → local ≡ fault_lanes W t kind_in 3
      → ◌≡◌ {A = Faults} (record { over = over; odd = odd; device = device; local = local; divisor = 0; barrier = 0 }) (kinds_of W t kind_in)
  four_kinds over odd device local v o d l =
      λ i.
      record {
        over = v i;
        odd = o i;
        device = d i;
        local = l i;
        divisor = sym (no_other 3 (λ e. omega arith) (λ e. omega arith) (no_past s 4 (omega arith))) i;
        barrier = sym (no_other 4 (λ e. omega arith) (λ e. omega arith) (no_past s 5 (omega arith))) i;
      }

-- ---- divisors

divisor_kind : (bad : Bool) → eqb (cond bad 4 0) 4 ≡ bad
divisor_kind true = refl
divisor_kind false = refl

other_divisor : (bad : Bool) (k : ℕ) → (suc k ≡ 4 → ⊥) → eqb (cond bad 4 0) (suc k) ≡ false
other_divisor true k a = ne_eqb 4 (suc k) (λ e. a (sym e))
other_divisor false k a = ne_eqb 0 (suc k) (λ e. omega arith)

module _ (W t : ℕ) (at : ℕ → ℕ) where
  abbrev kind_at : ℕ → ℕ
  kind_at i = divisor_fault (at i)

  pub none_but_divisors : (k : ℕ) → (suc k ≡ 4 → ⊥) → fault_lanes W t kind_at (suc k) ≡ 0
  none_but_divisors k a = lanes_none W t _ (suc k) (λ i l. other_divisor (eqb (at i) 0) k a)

  -- from the code's test of the divisors
  pub divisor_kinds : (set : ℕ) → set ≡ set_of W (λ i. has t i && eqb (at i) 0) → of_divisors set ≡ kinds_of W t kind_at
  divisor_kinds set z =
      let all : set ≡ fault_lanes W t kind_at 4 = z ∙ sym (lanes_by W t _ 4 _ (λ i b. divisor_kind (eqb (at i) 0))) in
      faults_same (λ k. cond (eqb k 4) set 0) (fault_lanes W t kind_at)
      (λ k.
      cond_by (λ (l : ℕ). l ≡ fault_lanes W t kind_at (suc k)) (eqb (suc k) 4) set 0
      (λ a. all ∙ ap (fault_lanes W t kind_at) (sym (eqb-true (suc k) 4 a)))
      (λ a. sym (none_but_divisors k (λ e. never (sym a ∙ eq-eqb _ _ e)))))
