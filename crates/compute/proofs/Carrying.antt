-- What carrying out one instruction keeps: the laws that a run asks for. `carried_by_lem` takes an outcome apart by the two tests, the
-- shape and the faults; `regs_by_lem` and `memories_by_lem` take the operations by where their results go.
use mathlib.Core.Path.{◌≡◌, refl, sym, ap, ap₂, ◌∙◌}
use mathlib.Core.Bool.{true, false, not, ◌&&◌, ◌||◌, and-true, and-false, or-false}
use mathlib.Core.List.{List}
use Prim.Native.Nat.{ℕ, ◌<◌}
use native.Mathlib.Omega.{arith}
use lib.Dec.{eqb, ltb}
use lib.ListN.{length, get_or}
use Rattle.ground.specs.Lists.{in_order}
use Rattle.ground.proofs.Choices.{cond_by}
use Rattle.ground.proofs.Turns.{in_order_idle}
use Rattle.lanes.specs.Sets.{has, without, set_of}
use Rattle.lanes.proofs.Members.{has_or, has_without, has_zero, has_set_of, has_ext}
use Rattle.instructions.specs.declared.instr.Space.{Space}
use Rattle.instructions.specs.declared.instr.ControlOp.{ControlOp}
use Rattle.instructions.specs.declared.instr.Op.{Op}
use Rattle.instructions.specs.declared.instr.Instr.{Instr}
use Rattle.instructions.specs.Registers.{registers_of}
use Rattle.faulting.specs.declared.faults.Faults.{Faults}
use Rattle.faulting.specs.Kinds.{no_faults, clear}
use Rattle.faulting.proofs.FaultKinds.{idle_kinds}
use Rattle.compute.specs.declared.Shape.{Shape}
use Rattle.compute.specs.Registers.{slot_in, write_lanes}
use Rattle.compute.specs.Memory.{Memories, memories, changes_of}
use Rattle.compute.specs.Operands.{Lent, Operands, operands_of}
use Rattle.compute.specs.Values.{results_of, target_by, regs_by, predicate_of, predicate_by, changed, memories_by}
use Rattle.compute.specs.Carrying.{Outcome, outcome, in_shape, faults_of, after_of, unless_fault, having_read, carried_of}
use Rattle.compute.proofs.Writing.{length-write_lanes, written}
use Rattle.compute.proofs.Standing.{stands_rd}
use Rattle.compute.proofs.Arms.{arm_control}

-- ---- the operations by where their results go

pub regs_by_lem : (P : List ℕ → Type 0) (o : Op) (shape : Shape) (d t : ℕ) (results regs : List ℕ)
    → ((registers_of o).rd ≡ true → P (write_lanes shape regs d t results)) → P regs → P (regs_by (target_by o) shape d t results regs)
regs_by_lem P (Op.Two o) shape d t results regs p q = p refl
regs_by_lem P (Op.Compare o) shape d t results regs p q = q
regs_by_lem P (Op.One o) shape d t results regs p q = p refl
regs_by_lem P Op.Special shape d t results regs p q = p refl
regs_by_lem P Op.Number shape d t results regs p q = p refl
regs_by_lem P (Op.Load s) shape d t results regs p q = p refl
regs_by_lem P (Op.Store s) shape d t results regs p q = q
regs_by_lem P (Op.Atomic o) shape d t results regs p q = p refl
regs_by_lem P Op.Cas shape d t results regs p q = p refl
regs_by_lem P (Op.Wave o) shape d t results regs p q = p refl
regs_by_lem P Op.Shuffle shape d t results regs p q = p refl
regs_by_lem P (Op.Control o) shape d t results regs p q = q

pub predicate_by_lem : (P : ℕ → Type 0) (o : Op) (shape : Shape) (t : ℕ) (results : List ℕ) (p : ℕ)
    → P (predicate_of shape.width p t results) → P p → P (predicate_by (target_by o) shape t results p)
predicate_by_lem P (Op.Two o) shape t results p c q = q
predicate_by_lem P (Op.Compare o) shape t results p c q = c
predicate_by_lem P (Op.One o) shape t results p c q = q
predicate_by_lem P Op.Special shape t results p c q = q
predicate_by_lem P Op.Number shape t results p c q = q
predicate_by_lem P (Op.Load s) shape t results p c q = q
predicate_by_lem P (Op.Store s) shape t results p c q = q
predicate_by_lem P (Op.Atomic o) shape t results p c q = q
predicate_by_lem P Op.Cas shape t results p c q = q
predicate_by_lem P (Op.Wave o) shape t results p c q = q
predicate_by_lem P Op.Shuffle shape t results p c q = q
predicate_by_lem P (Op.Control o) shape t results p c q = q

pub memories_by_lem : (P : Memories → Type 0) (o : Op) (W : ℕ) (x : Instr) (t : ℕ) (v : Operands) (y : Memories)
    → ((s : Space) (at : List ℕ) (f : ℕ → ℕ → ℕ) → P (changed s (changes_of W at f t) y)) → P y → P (memories_by o W x t v y)
memories_by_lem P (Op.Two o) W x t v y p q = q
memories_by_lem P (Op.Compare o) W x t v y p q = q
memories_by_lem P (Op.One o) W x t v y p q = q
memories_by_lem P Op.Special W x t v y p q = q
memories_by_lem P Op.Number W x t v y p q = q
memories_by_lem P (Op.Load s) W x t v y p q = q
memories_by_lem P (Op.Store s) W x t v y p q = p s _ _
memories_by_lem P (Op.Atomic o) W x t v y p q = p Space.Device _ _
memories_by_lem P Op.Cas W x t v y p q = p Space.Device _ _
memories_by_lem P (Op.Wave o) W x t v y p q = q
memories_by_lem P Op.Shuffle W x t v y p q = q
memories_by_lem P (Op.Control o) W x t v y p q = q

-- a predicate after a comparison, bit by bit
pub has_predicate : (W p t : ℕ) (results : List ℕ) (i : ℕ)
    → has (predicate_of W p t results) i ≡ ((has p i && not (has t i)) || (ltb i W && (has t i && eqb (get_or results i 0) 1)))
unfolding predicate_of
has_predicate W p t results i =
    has_or (without p t) (set_of W _) i ∙ ap₂ ◌||◌ (has_without p t i) (has_set_of W (λ j. has t j && eqb (get_or results j 0) 1) i)

-- ---- with no executing lane there is no fault and no change

module _ {t : ℕ} (z : t ≡ 0) where
  never_has : (i : ℕ) → has t i ≡ false
  never_has i = rw z (has_zero i)

  no_bits : (W p : ℕ) (results : List ℕ) → predicate_of W p t results ≡ p
  no_bits W p results =
      has_ext (predicate_of W p t results) p
      (λ i. has_predicate W p t results i ∙ rw (never_has i, and-true, and-false) (or-false (has p i)))

  no_writes : (shape : Shape) (regs : List ℕ) (d : ℕ) (results : List ℕ) → write_lanes shape regs d t results ≡ regs
  unfolding write_lanes in_order
  no_writes shape regs d results = in_order_idle _ 0 shape.width (omega arith) (λ i a b l. rw (never_has i) refl) regs

  no_change : (W : ℕ) (at : List ℕ) (f : ℕ → ℕ → ℕ) (memory : List ℕ) → changes_of W at f t memory ≡ memory
  unfolding changes_of in_order
  no_change W at f memory = in_order_idle _ 0 W (omega arith) (λ i a b l. rw (never_has i) refl) memory

  no_changes : (s : Space) (W : ℕ) (at : List ℕ) (f : ℕ → ℕ → ℕ) (y : Memories) → changed s (changes_of W at f t) y ≡ y
  no_changes Space.Device W at f y = ap (λ (l : List ℕ). memories l y.local) (no_change W at f y.device)
  no_changes Space.Local W at f y = ap (memories y.device) (no_change W at f y.local)

-- ---- one instruction

module _ (shape : Shape) (x : Instr) (t : ℕ) (m : Lent) where
  abbrev read : Operands
  read = operands_of shape x m.regs

  abbrev results : List ℕ
  results = results_of shape x t m.memories read

  -- ---- by the two tests

  pub carried_in : in_shape shape x m.regs ≡ true → carried_of shape x t m ≡ having_read shape x t read m
  unfolding carried_of
  carried_in e = rw e refl

  -- out of shape nothing happens
  pub carried_out : in_shape shape x m.regs ≡ false → carried_of shape x t m ≡ outcome no_faults m
  unfolding carried_of
  carried_out e = rw e refl

  pub carried_by_lem : (P : Outcome → Type 0) → (in_shape shape x m.regs ≡ true → P (having_read shape x t read m)) → P (outcome no_faults m)
      → P (carried_of shape x t m)
  unfolding carried_of
  carried_by_lem P p q = cond_by P (in_shape shape x m.regs) _ _ p (λ e. q)

  pub after_by : (P : Lent → Type 0) → (in_shape shape x m.regs ≡ true → P (after_of shape x t read m)) → P m → P (carried_of shape x t m).after
  after_by P p q =
      carried_by_lem (λ (o : Outcome). P o.after) (λ e. cond_by P (clear (faults_of shape x t read m)) _ m (λ c. p e) (λ c. q)) q

  -- with any fault everything is as before
  pub faulted : clear (carried_of shape x t m).faults ≡ false → (carried_of shape x t m).after ≡ m
  faulted =
      carried_by_lem (λ (o : Outcome). clear o.faults ≡ false → o.after ≡ m)
      (λ e c. rw c refl)
      (λ c. refl)

  -- ---- lengths

  pub length-regs : length (carried_of shape x t m).after.regs ≡ length m.regs
  unfolding after_of
  length-regs =
      after_by (λ (l : Lent). length l.regs ≡ length m.regs)
      (λ e. regs_by_lem (λ (l : List ℕ). length l ≡ length m.regs) x.op shape x.rd t results m.regs
      (λ u. length-write_lanes shape m.regs x.rd t results) refl)
      refl

  -- ---- lanes that do not execute

  -- their registers stay
  pub other_lanes : (j s : ℕ) → has t j ≡ false → j < shape.width → s < shape.registers
      → get_or (carried_of shape x t m).after.regs (slot_in shape j s) 0 ≡ get_or m.regs (slot_in shape j s) 0
  unfolding after_of
  other_lanes j s n hj hs =
      after_by (λ (l : Lent). get_or l.regs (slot_in shape j s) 0 ≡ get_or m.regs (slot_in shape j s) 0)
      (λ e. regs_by_lem (λ (l : List ℕ). get_or l (slot_in shape j s) 0 ≡ get_or m.regs (slot_in shape j s) 0) x.op shape x.rd t results m.regs
      (λ u. written (stands_rd shape x m.regs e x.op refl u) t results j s hj hs ∙ rw n refl) refl)
      refl

  -- and their bits of the predicate
  pub other_bits : (i : ℕ) → has t i ≡ false → has (carried_of shape x t m).after.predicate i ≡ has m.predicate i
  unfolding after_of
  other_bits i n =
      after_by (λ (l : Lent). has l.predicate i ≡ has m.predicate i)
      (λ e. predicate_by_lem (λ (p : ℕ). has p i ≡ has m.predicate i) x.op shape t results m.predicate (kept results) refl)
      refl
    where
      kept : (vs : List ℕ) → has (predicate_of shape.width m.predicate t vs) i ≡ has m.predicate i
      kept vs = has_predicate shape.width m.predicate t vs i ∙ rw (n, and-true, and-false) (or-false (has m.predicate i))

  -- ---- no executing lane

  -- nothing happens
  pub idle : t ≡ 0 → carried_of shape x t m ≡ outcome no_faults m
  unfolding faults_of after_of
  idle z =
      carried_by_lem (λ (o : Outcome). o ≡ outcome no_faults m)
      (λ e. ap₂ (λ (f : Faults) (l : Lent). unless_fault f m l) (idle_kinds shape.width t _ (never_has z)) (lent_same _ _ _
      (predicate_by_lem (λ (p : ℕ). p ≡ m.predicate) x.op shape t results m.predicate (no_bits z shape.width m.predicate results) refl)
      (regs_by_lem (λ (l : List ℕ). l ≡ m.regs) x.op shape x.rd t results m.regs (λ u. no_writes z shape m.regs x.rd results) refl)
      (memories_by_lem (λ (y : Memories). y ≡ m.memories) x.op shape.width x t read m.memories
      (λ s at f. no_changes z s shape.width at f m.memories) refl)))
      refl
    where
      lent_same : (p : ℕ) (regs : List ℕ) (y : Memories) → p ≡ m.predicate → regs ≡ m.regs → y ≡ m.memories
          → ◌≡◌ {A = Lent} (record { predicate = p; regs = regs; memories = y }) m
      lent_same p regs y e f g = rw (e, f, g) refl

  -- ---- control

  pub control : (o : ControlOp) → x.op ≡ Op.Control o → carried_of shape x t m ≡ outcome no_faults m
  control o e =
      carried_by_lem (λ (c : Outcome). c ≡ outcome no_faults m)
      (λ s. sym (arm_control shape x t m.predicate m.regs m.memories.device m.memories.local o e no_faults refl))
      refl
