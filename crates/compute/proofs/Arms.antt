-- An instruction by the class of its operation: the one definition of what it does, as each of the code's arms does it.
use mathlib.Core.Path.{◌≡◌, refl, sym, ap, ap₂, ◌∙◌}
use mathlib.Core.Bool.{Bool, true, false, cond}
use mathlib.Core.List.{List}
use Prim.Native.Nat.{ℕ, ◌^◌, ◌≤◌, ◌<◌, min}
use native.Mathlib.Nat.{min-eq_left}
use lib.ListN.{length, get_or}
use Rattle.lanes.specs.Sets.{widest}
use Rattle.instructions.specs.declared.instr.TwoOp.{TwoOp}
use Rattle.instructions.specs.declared.instr.OneOp.{OneOp}
use Rattle.instructions.specs.declared.instr.CompareOp.{CompareOp}
use Rattle.instructions.specs.declared.instr.WaveOp.{WaveOp}
use Rattle.instructions.specs.declared.instr.ControlOp.{ControlOp}
use Rattle.instructions.specs.declared.instr.Space.{Space}
use Rattle.instructions.specs.declared.instr.Op.{Op}
use Rattle.instructions.specs.declared.instr.Instr.{Instr}
use Rattle.arith.specs.Arith.{word_of}
use Rattle.across.specs.Across.{across_of, shuffle_of}
use Rattle.faulting.specs.declared.faults.Faults.{Faults}
use Rattle.faulting.specs.Kinds.{no_faults, clear}
use Rattle.faulting.specs.Causes.{address_fault, kinds_of, address_faults}
use Rattle.faulting.proofs.FaultKinds.{no_kinds}
use Rattle.compute.specs.declared.Shape.{Shape}
use Rattle.compute.specs.declared.memory.Change.{Change}
use Rattle.lanes.specs.EachLane.{by_lane}
use Rattle.compute.specs.Registers.{gather_of, write_lanes}
use Rattle.compute.specs.Memory.{Memories, memories, memory_of, changes_of, old_of}
use Rattle.compute.specs.Operands.{Lent, lent, operands_of}
use Rattle.compute.specs.Values.{special_of, results_of, predicate_of, changed}
use Rattle.compute.specs.Carrying.{Outcome, outcome, faults_of, after_of, unless_fault, having_read}
use Rattle.compute.specs.Lanewise.{two_lanes, compare_lanes, one_lanes, load_lanes, op_by, desired_by, change_to}
use Rattle.compute.specs.Classes.{Ready, Settled, dividing_faults, reached, reach_faults, Loads, stores_of, Stores}
use Rattle.lanes.proofs.Filling.{by_lane_same}
use Rattle.compute.proofs.Settling.{settled_as, settled_within, settled_changed, settled_same}
use Rattle.compute.proofs.Standing.{narrow}
use Rattle.compute.proofs.Addressing.{address_at, faults_alone}

settled_outcome : {faults answer : Faults} {changed before after : Lent} → Settled faults changed answer before after
    → outcome answer after ≡ unless_fault faults before changed
settled_outcome h = ap₂ outcome h.answered h.left

module _ (shape : Shape) (x : Instr) (t p : ℕ) (regs device local : List ℕ) where
  abbrev W : ℕ
  W = shape.width

  abbrev before : Lent
  before = lent p regs device local

  abbrev both : Memories
  both = memories device local

  -- with these registers and memories afterwards
  abbrev left : List ℕ → Memories → Lent
  left after y = lent p after y.device y.local

  abbrev write : List ℕ → List ℕ
  write results = write_lanes shape regs x.rd t results

  abbrev bases : List ℕ
  bases = gather_of shape regs x.rs1

  abbrev at : List ℕ
  at = reached shape x regs

  abbrev done : Outcome
  done = having_read shape x t (operands_of shape x regs) before

  -- ---- what each class does is what the one definition says

  -- where no lane has a kind of fault
  unfaulted : (after : Lent) → outcome no_faults after ≡ unless_fault (kinds_of W t (λ i. 0)) before after
  unfaulted after = ap (λ (f : Faults). unless_fault f before after) (no_kinds W t (λ i. 0) (λ i b. refl))

  as_two : (o : TwoOp) → x.op ≡ Op.Two o
      → unless_fault (dividing_faults o shape regs x.rs2 t) before (left (write (two_lanes o shape regs x.rs1 x.rs2)) both) ≡ done
  unfolding faults_of after_of results_of two_lanes
  as_two o e = rw e refl

  as_compare : (o : CompareOp) → x.op ≡ Op.Compare o
      → outcome no_faults (lent (predicate_of W p t (compare_lanes o shape regs x.rs1 x.rs2)) regs device local) ≡ done
  unfolding faults_of after_of results_of compare_lanes
  as_compare o e = rw e (unfaulted _)

  as_one : (o : OneOp) → x.op ≡ Op.One o → outcome no_faults (left (write (one_lanes o shape regs x.rs1)) both) ≡ done
  unfolding faults_of after_of results_of one_lanes
  as_one o e = rw e (unfaulted _)

  as_special : x.op ≡ Op.Special → outcome no_faults (left (write (by_lane W (special_of x.rs1))) both) ≡ done
  unfolding faults_of after_of results_of
  as_special e = rw e (unfaulted _)

  as_number : x.op ≡ Op.Number → outcome no_faults (left (write (by_lane W (λ i. x.number))) both) ≡ done
  unfolding faults_of after_of results_of
  as_number e = rw e (unfaulted _)

  -- the numbers of a gathered register
  abbrev number_in : List ℕ → ℕ → ℕ
  number_in l j = get_or l j 0

  as_wave : (o : WaveOp) → x.op ≡ Op.Wave o → outcome no_faults (left (write (by_lane W (across_of o W t (number_in bases)))) both) ≡ done
  unfolding faults_of after_of results_of
  as_wave o e = rw e (unfaulted _)

  as_shuffle : x.op ≡ Op.Shuffle
      → outcome no_faults (left (write (by_lane W (shuffle_of W t (number_in bases) (number_in (gather_of shape regs x.rs2))))) both) ≡ done
  unfolding faults_of after_of results_of
  as_shuffle e = rw e (unfaulted _)

  as_control : (o : ControlOp) → x.op ≡ Op.Control o → outcome no_faults before ≡ done
  unfolding faults_of after_of results_of
  as_control o e = rw e (unfaulted _)

  as_load : (s : Space) → x.op ≡ Op.Load s → W ≤ widest
      → unless_fault (reach_faults s shape x t regs (memory_of s both)) before (left (write (load_lanes W at (memory_of s both))) both) ≡ done
  unfolding faults_of after_of results_of load_lanes
  as_load s e n =
      rw e
      (ap (λ (results : List ℕ). unless_fault (reach_faults s shape x t regs (memory_of s both)) before (left (write results) both))
      (by_lane_same W _ _ (λ i b. ap (λ (a : ℕ). get_or (memory_of s both) (word_of a) 0) (address_at W bases x.number i b n))))

  as_store : (s : Space) → x.op ≡ Op.Store s
      → unless_fault (reach_faults s shape x t regs (memory_of s both)) before (left regs (changed s (stores_of shape x t regs) both)) ≡ done
  unfolding faults_of after_of results_of
  as_store s e = rw e refl

  -- an atomic: what it leaves, and its faults
  abbrev changes : (ℕ → ℕ → ℕ) → Lent
  changes f = left (write (by_lane W (old_of bases f t device))) (memories (changes_of W bases f t device) local)

  abbrev at_bases : Faults
  at_bases = kinds_of W t (λ i. address_fault Space.Device (length device) (get_or bases i 0))

  as_change : (change : Change) → x.op ≡ op_by change
      → unless_fault at_bases before
      (changes (change_to change shape regs x.rs2 (desired_by change x))) ≡ done
  unfolding faults_of after_of results_of
  as_change (Change.Atomic o) e = rw e refl
  as_change Change.Swap e = rw e refl

  -- ---- so what an arm of the code has done is what the one definition says

  -- of results and faults as the writer was handed them
  wrote : (r f : Faults) (v after : List ℕ) (faults : Faults) (results : List ℕ) → Settled f (write v) r regs after → f ≡ faults → v ≡ results
      → outcome r (lent p after device local) ≡ unless_fault faults before (left (write results) both)
  wrote r f v after faults results h e g =
      settled_outcome (settled_within (λ (l : List ℕ). left l both) (settled_as h faults (write results) e (ap write g)))

  module _ (r f : Faults) (v after : List ℕ) (h : Settled f (write v) r regs after) where
    pub arm_two : (o : TwoOp) → Ready (Op.Two o) shape x regs → f ≡ dividing_faults o shape regs x.rs2 t
        → v ≡ two_lanes o shape regs x.rs1 x.rs2 → outcome r (lent p after device local) ≡ done
    arm_two o y e g = wrote r f v after _ _ h e g ∙ as_two o y.is

    pub arm_one : (o : OneOp) → Ready (Op.One o) shape x regs → f ≡ no_faults → v ≡ one_lanes o shape regs x.rs1
        → outcome r (lent p after device local) ≡ done
    arm_one o y e g = wrote r f v after no_faults _ h e g ∙ as_one o y.is

    pub arm_special : Ready Op.Special shape x regs → f ≡ no_faults → v ≡ by_lane W (special_of x.rs1)
        → outcome r (lent p after device local) ≡ done
    arm_special y e g = wrote r f v after no_faults _ h e g ∙ as_special y.is

    -- the width of an instruction in shape is narrow
    width_is : {o : Op} → Ready o shape x regs → min W widest ≡ W
    width_is y = min-eq_left (narrow shape x regs y.shaped)

    pub arm_number : Ready Op.Number shape x regs → f ≡ no_faults → v ≡ by_lane (min W widest) (λ i. x.number)
        → outcome r (lent p after device local) ≡ done
    arm_number y e g =
        wrote r f v after no_faults _ h e (g ∙ ap (λ (n : ℕ). by_lane n (λ i. x.number)) (width_is y)) ∙ as_number y.is

    pub arm_wave : (o : WaveOp) → Ready (Op.Wave o) shape x regs → f ≡ no_faults → (a : List ℕ) → a ≡ bases
        → v ≡ by_lane (min W widest) (across_of o (min W widest) t (number_in a)) → outcome r (lent p after device local) ≡ done
    arm_wave o y e a read g =
        wrote r f v after no_faults _ h e
        (g ∙ ap₂ (λ (n : ℕ) (l : List ℕ). by_lane n (across_of o n t (number_in l))) (width_is y) read)
        ∙ as_wave o y.is

    pub arm_shuffle : Ready Op.Shuffle shape x regs → f ≡ no_faults → (a b : List ℕ) → a ≡ bases → b ≡ gather_of shape regs x.rs2
        → v ≡ by_lane (min W widest) (shuffle_of (min W widest) t (number_in a) (number_in b)) → outcome r (lent p after device local) ≡ done
    arm_shuffle y e a b read named g =
        wrote r f v after no_faults _ h e
        (g ∙ ap (λ (n : ℕ). by_lane n (shuffle_of n t (number_in a) (number_in b))) (width_is y)
        ∙ ap₂ (λ (l k : List ℕ). by_lane W (shuffle_of W t (number_in l) (number_in k))) read named)
        ∙ as_shuffle y.is

  pub arm_compare : (o : CompareOp) → x.op ≡ Op.Compare o → (r : Faults) (q : ℕ) (results : List ℕ) → r ≡ no_faults
      → results ≡ compare_lanes o shape regs x.rs1 x.rs2 → q ≡ predicate_of W p t results → outcome r (lent q regs device local) ≡ done
  arm_compare o e r q results f v h =
      ap₂ (λ (f : Faults) (q : ℕ). outcome f (lent q regs device local)) f (h ∙ ap (predicate_of W p t) v) ∙ as_compare o e

  pub arm_load : (s : Space) → Ready (Op.Load s) shape x regs → (r : Faults) (after : List ℕ) → Loads s shape x t (memory_of s both) r regs after
      → outcome r (lent p after device local) ≡ done
  arm_load s y r after h =
      settled_outcome (settled_within (λ (l : List ℕ). left l both) h) ∙ as_load s y.is (narrow shape x regs y.shaped)

  -- a store, by its memory
  pub arm_store_device : Ready (Op.Store Space.Device) shape x regs → (r : Faults) (device' : List ℕ)
      → Stores Space.Device shape x t regs r device device' → outcome r (lent p regs device' local) ≡ done
  arm_store_device y r device' h =
      settled_outcome (settled_within (λ (l : List ℕ). left regs (memories l local)) h) ∙ as_store Space.Device y.is

  pub arm_store_local : Ready (Op.Store Space.Local) shape x regs → (r : Faults) (local' : List ℕ)
      → Stores Space.Local shape x t regs r local local' → outcome r (lent p regs device local') ≡ done
  arm_store_local y r local' h =
      settled_outcome (settled_within (λ (l : List ℕ). left regs (memories device l)) h) ∙ as_store Space.Local y.is

  -- an atomic, by what `is_clear` told of its faults
  module _ (change : Change) (y : Ready (op_by change) shape x regs) (c : ℕ) (named : c ≡ desired_by change x) (l : List ℕ) (read : l ≡ bases)
      (f : Faults) (low : (k : ℕ) → get_or regs k 0 < 2 ^ 32) (told : f ≡ address_faults Space.Device W l 0 (length device) t) (test : Bool) (tested : test ≡ clear f) where
    faults_are : f ≡ at_bases
    faults_are =
        told ∙ ap (λ (k : List ℕ). address_faults Space.Device W k 0 (length device) t) read
        ∙ faults_alone Space.Device shape regs low (narrow shape x regs y.shaped) x.rs1 (length device) t

    -- lane i's change, with the register c
    abbrev to : ℕ → ℕ → ℕ → ℕ
    to c = change_to change shape regs x.rs2 c

    pub arm_change : (r : Faults) (v after device' : List ℕ) → test ≡ true → v ≡ by_lane W (old_of l (to c) t device)
        → device' ≡ changes_of W l (to c) t device → Settled f (write v) r regs after → outcome r (lent p after device' local) ≡ done
    arm_change r v after device' e g d w =
        let made = to (desired_by change x) in
        let wrote : after ≡ write v = w.left ∙ ap (λ (b : Bool). cond b (write v) regs) (sym tested ∙ e) in
        ap (λ (a : Faults). outcome a (lent p after device' local)) w.answered
        ∙ settled_outcome
        (settled_changed _ f test faults_are tested (changes made) before (lent p after device' local) e
        (ap₂ (λ (r m : List ℕ). left r (memories m local))
        (wrote ∙ ap write (g ∙ ap₂ (λ (k : List ℕ) (c : ℕ). by_lane W (old_of k (to c) t device)) read named))
        (d ∙ ap₂ (λ (k : List ℕ) (c : ℕ). changes_of W k (to c) t device) read named)))
        ∙ as_change change y.is

    pub arm_unchanged : test ≡ false → outcome f before ≡ done
    arm_unchanged e =
        settled_outcome (settled_same _ f test faults_are tested (changes (to (desired_by change x))) before e) ∙ as_change change y.is

  pub arm_control : (o : ControlOp) → x.op ≡ Op.Control o → (r : Faults) → r ≡ no_faults → outcome r before ≡ done
  arm_control o e r f = ap (λ (f : Faults). outcome f before) f ∙ as_control o e
