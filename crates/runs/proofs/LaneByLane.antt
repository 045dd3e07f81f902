-- What one instruction leaves, lane by lane and word by word: an executing lane's RD holds its result, every other register is as before; the
-- highest lane's store stays.
use mathlib.Core.Path.{◌≡◌, refl, sym, ap, ◌∙◌}
use mathlib.Core.Bool.{Bool, true, false, ◌&&◌, ◌||◌}
use mathlib.Core.List.{List}
use Prim.Native.Nat.{ℕ, zero, suc, ◌≤◌, ◌<◌}
use native.Mathlib.Decide.{ℕ_discrete}
use native.Mathlib.Omega.{arith}
use lib.Dec.{eqb}
use lib.ListN.{length, get_or}
use lib.Seq.{get_or-set_same, get_or-set_other}
use borrow.Author.Tests.{eq-eqb, eqb-true, lt-ltb}
use Rattle.ground.specs.Lists.{in_order}
use Rattle.ground.proofs.Choices.{cond_by, length_set_cond}
use Rattle.ground.proofs.Lists.{length-in_order, in_order_same}
use Rattle.ground.proofs.Tests.{false_of}
use Rattle.lanes.specs.Sets.{widest, has}
use Rattle.instructions.specs.declared.instr.AtomicOp.{AtomicOp}
use Rattle.instructions.specs.declared.instr.Op.{Op}
use Rattle.instructions.specs.declared.instr.Space.{Space}
use Rattle.instructions.specs.declared.instr.Instr.{Instr}
use Rattle.instructions.specs.Registers.{registers_of}
use Rattle.arith.specs.Arith.{atomic_of, swap_of, address_of, word_of}
use Rattle.faulting.specs.Kinds.{clear}
use Rattle.compute.specs.declared.Shape.{Shape}
use Rattle.compute.specs.Registers.{gather_of}
use Rattle.compute.specs.Memory.{Memories, memory_of, addresses_of, change_turn, changes_of, old_of}
use Rattle.compute.specs.Operands.{Lent, Operands, operands_by, operands_of}
use Rattle.compute.specs.Values.{Target, register as to-register, predicate as to-predicate}
use Rattle.compute.specs.Values.{store_to, atomic_to, swap_to, value_by, results_of, target_by, regs_by, changed, memories_by}
use Rattle.compute.specs.Carrying.{Outcome, in_shape, faults_of, after_of, carried_of}
use Rattle.runs.specs.Results.{register, turn_at, work_of, found_by, rd_of, rs1_of, rs2_of, rs3_of, reach_of}
use Rattle.runs.specs.Results.{result_by, result_of, Highest, Changes, store, atomic, cas}
use Rattle.lanes.proofs.Filling.{get_d_by_lane}
use Rattle.compute.proofs.Lanewise.{get_d_gather}
use Rattle.across.proofs.Reading.{reads_executing, shuffle_reads}
use Rattle.compute.proofs.Writing.{written}
use Rattle.compute.proofs.Standing.{narrow, stands_rd}
use Rattle.compute.proofs.Carrying.{carried_in, after_by, has_predicate}

-- ---- stores, in rising lane order

module _ (address : ℕ → ℕ) (f : ℕ → ℕ → ℕ) (t k : ℕ) (memory : List ℕ) where
  length_work : (n : ℕ) → length (work_of address f t n memory) ≡ length memory
  length_work n =
      length-in_order (turn_at address f t) (λ i l. length_set_cond l (word_of (address i)) (f i (get_or l (word_of (address i)) 0)) (has t i)) n memory

  -- a lane that doesn't execute, or whose address names another word, leaves word k
  other_turn : (i : ℕ) (l : List ℕ) → (has t i ≡ true → word_of (address i) ≡ k → ⊥) → get_or (turn_at address f t i l) k 0 ≡ get_or l k 0
  other_turn i l other =
      cond_by (λ (y : List ℕ). get_or y k 0 ≡ get_or l k 0) (has t i) _ l
      (λ e. get_or-set_other l (word_of (address i)) k (f i (get_or l (word_of (address i)) 0)) 0 (λ q. other e (sym q)))
      (λ e. refl)

  -- where no lane's does, word k is as before
  pub untouched : (n : ℕ) → ((i : ℕ) → i < n → has t i ≡ true → word_of (address i) ≡ k → ⊥) → get_or (work_of address f t n memory) k 0 ≡ get_or memory k 0
  unfolding in_order
  untouched zero none = refl
  untouched (suc n) none = other_turn n (work_of address f t n memory) (none n (omega arith)) ∙ untouched n (λ i h. none i (omega arith))

  -- else it is as the highest such lane left it
  pub highest : (n j : ℕ) → Highest address t n k j → k < length memory → get_or (work_of address f t n memory) k 0 ≡ f j (found_by address f t memory j)
  unfolding in_order
  highest zero j h r = absurd (omega (arith, h.below))
  highest (suc n) j h r =
      elim (ℕ_discrete j n) [
        | yes q ↦ rw (← q, h.executes, h.names)
            (get_or-set_same (work_of address f t j memory) k (f j (get_or (work_of address f t j memory) k 0)) 0 (omega (arith, length_work j)))
        | no q ↦ other_turn n (work_of address f t n memory) (h.none_above n (omega (arith, h.below)) (omega arith))
            ∙ highest n j
            record {
              below = omega (arith, h.below);
              executes = h.executes;
              names = h.names;
              none_above = λ i a b. h.none_above i a (omega arith);
            } r
      ]

-- ---- what the lanes read are their registers

module _ (shape : Shape) (x : Instr) (t : ℕ) (m : Lent) (slim : shape.width ≤ widest) where
  abbrev W : ℕ
  W = shape.width

  abbrev read : Op → Operands
  read o = operands_by (registers_of o) shape x m.regs

  reg : (r i : ℕ) → i < W → get_or (gather_of shape m.regs r) i 0 ≡ register shape m.regs i r
  reg r i h = get_d_gather shape m.regs r i h slim

  -- the turns at a memory
  same_turns : (at : List ℕ) (address : ℕ → ℕ) (f g : ℕ → ℕ → ℕ) (n : ℕ) → n ≤ W → ((i : ℕ) → i < W → get_or at i 0 ≡ address i)
      → ((i old : ℕ) → i < W → f i old ≡ g i old) → (memory : List ℕ) → in_order n (change_turn at f t) memory ≡ work_of address g t n memory
  same_turns at address f g n most a b memory =
      in_order_same n (change_turn at f t) (turn_at address g t)
      (λ k h l. rw (a k (omega arith), b k (get_or l (word_of (address k)) 0) (omega arith)) refl) memory

  -- the old word that a lane found
  same_old : (at : List ℕ) (address : ℕ → ℕ) (f g : ℕ → ℕ → ℕ) → ((i : ℕ) → i < W → get_or at i 0 ≡ address i)
      → ((i old : ℕ) → i < W → f i old ≡ g i old) → (memory : List ℕ) (i : ℕ) → i < W → has t i ≡ true
      → old_of at f t memory i ≡ found_by address g t memory i
  same_old at address f g a b memory i h e = rw (e, a i h, same_turns at address f g i (omega arith) a b memory) refl

  -- a lane's result
  value_is : (o : Op) (i : ℕ) → i < W → has t i ≡ true → value_by o W x t m.memories (read o) i ≡ result_by o shape x t m i
  value_is (Op.Two o) i h e = rw (reg x.rs1 i h, reg x.rs2 i h) refl
  value_is (Op.Compare o) i h e = rw (reg x.rs1 i h, reg x.rs2 i h) refl
  value_is (Op.One o) i h e = rw (reg x.rs1 i h) refl
  value_is Op.Special i h e = refl
  value_is Op.Number i h e = refl
  value_is (Op.Load s) i h e = rw (reg x.rs1 i h) refl
  value_is (Op.Store s) i h e = refl
  value_is (Op.Atomic o) i h e =
      same_old (gather_of shape m.regs x.rs1) (rs1_of shape x m.regs) (atomic_to o (read (Op.Atomic o)))
      (λ j old. atomic_of o old (rs2_of shape x m.regs j)) (λ j b. reg x.rs1 j b)
      (λ j old b. ap (atomic_of o old) (reg x.rs2 j b)) m.memories.device i h e
  value_is Op.Cas i h e =
      same_old (gather_of shape m.regs x.rs1) (rs1_of shape x m.regs) (swap_to (read Op.Cas)) (λ j old. swap_of old (rs2_of shape x m.regs j) (rs3_of shape x m.regs j))
      (λ j b. reg x.rs1 j b) (λ j old b. rw (reg x.rs2 j b, reg x.rs3 j b) refl) m.memories.device i h e
  value_is (Op.Wave o) i h e =
      reads_executing o W t (λ j. get_or (gather_of shape m.regs x.rs1) j 0) (rs1_of shape x m.regs) (λ j b u. reg x.rs1 j b) i (omega arith)
  value_is Op.Shuffle i h e =
      shuffle_reads W t (λ j. get_or (gather_of shape m.regs x.rs1) j 0) (rs1_of shape x m.regs)
      (λ j. get_or (gather_of shape m.regs x.rs2) j 0) (rs2_of shape x m.regs) (λ j b u. reg x.rs1 j b) i (reg x.rs2 i h)
  value_is (Op.Control o) i h e = refl

  result_at : (i : ℕ) → i < W → has t i ≡ true → get_or (results_of shape x t m.memories (read x.op)) i 0 ≡ result_of shape x t m i
  unfolding results_of
  result_at i h e = get_d_by_lane W (value_by x.op W x t m.memories (read x.op)) i h slim ∙ value_is x.op i h e

-- an operation whose results go to a register has one in RD
rd_register : (o : Op) → target_by o ≡ to-register → (registers_of o).rd ≡ true
rd_register (Op.Two o) e = refl
rd_register (Op.Compare o) e = absurd (let z : ◌≡◌ {A = ℕ} 0 1 = cc in omega arith)
rd_register (Op.One o) e = refl
rd_register Op.Special e = refl
rd_register Op.Number e = refl
rd_register (Op.Load s) e = refl
rd_register (Op.Store s) e = refl
rd_register (Op.Atomic o) e = refl
rd_register Op.Cas e = refl
rd_register (Op.Wave o) e = refl
rd_register Op.Shuffle e = refl
rd_register (Op.Control o) e = absurd (let z : ◌≡◌ {A = ℕ} 0 1 = cc in omega arith)

-- a memory that an operation doesn't change
unchanged : (o : Op) (q : Space) (W : ℕ) (x : Instr) (t : ℕ) (v : Operands) (y : Memories) → (Changes o q → ⊥)
    → memory_of q (memories_by o W x t v y) ≡ memory_of q y
unchanged (Op.Two o) q W x t v y f = refl
unchanged (Op.Compare o) q W x t v y f = refl
unchanged (Op.One o) q W x t v y f = refl
unchanged Op.Special q W x t v y f = refl
unchanged Op.Number q W x t v y f = refl
unchanged (Op.Load s) q W x t v y f = refl
unchanged (Op.Store Space.Device) Space.Device W x t v y f = absurd (f store)
unchanged (Op.Store Space.Device) Space.Local W x t v y f = refl
unchanged (Op.Store Space.Local) Space.Device W x t v y f = refl
unchanged (Op.Store Space.Local) Space.Local W x t v y f = absurd (f store)
unchanged (Op.Atomic o) Space.Device W x t v y f = absurd (f atomic)
unchanged (Op.Atomic o) Space.Local W x t v y f = refl
unchanged Op.Cas Space.Device W x t v y f = absurd (f cas)
unchanged Op.Cas Space.Local W x t v y f = refl
unchanged (Op.Wave o) q W x t v y f = refl
unchanged Op.Shuffle q W x t v y f = refl
unchanged (Op.Control o) q W x t v y f = refl

-- ---- THEOREMS, of an instruction x by the executing lanes t

module _ (shape : Shape) (x : Instr) (t : ℕ) (m : Lent) where
  abbrev after : Lent
  after = (carried_of shape x t m).after

  abbrev results : List ℕ
  results = results_of shape x t m.memories (operands_of shape x m.regs)

  -- EVERY OTHER REGISTER of every lane is as before: all but an executing lane's RD, where the result goes there
  pub others_as_before : (i r : ℕ) → i < shape.width → r < shape.registers → (target_by x.op ≡ to-register → has t i ≡ true → r ≡ x.rd → ⊥)
      → register shape after.regs i r ≡ register shape m.regs i r
  unfolding after_of
  others_as_before i r hi hr other =
      after_by shape x t m (λ (l : Lent). register shape l.regs i r ≡ register shape m.regs i r)
      (λ e. by (target_by x.op) refl e)
      refl
    where
      not_both : (a b : Bool) → (a ≡ true → b ≡ true → ⊥) → (a && b) ≡ false
      not_both true b f = false_of b (f refl)
      not_both false b f = refl

      by : (g : Target) → target_by x.op ≡ g → in_shape shape x m.regs ≡ true
          → register shape (regs_by g shape x.rd t results m.regs) i r ≡ register shape m.regs i r
      by to-register g e =
          let none : (has t i && eqb r x.rd) ≡ false = not_both (has t i) (eqb r x.rd) (λ a b. other g a (eqb-true r x.rd b)) in
          written (stands_rd shape x m.regs e x.op refl (rd_register x.op g)) t results i r hi hr ∙ rw none refl
      by to-predicate g e = refl
      by Target.nothing g e = refl

  -- A MEMORY that the operation doesn't change is as before
  pub memory_as_before : (q : Space) → (Changes x.op q → ⊥) → memory_of q after.memories ≡ memory_of q m.memories
  unfolding after_of
  memory_as_before q f =
      after_by shape x t m (λ (l : Lent). memory_of q l.memories ≡ memory_of q m.memories)
      (λ e. unchanged x.op q shape.width x t (operands_of shape x m.regs) m.memories f)
      refl

  -- where it is in shape and no lane faults
  module _ (shaped : in_shape shape x m.regs ≡ true) (unfaulted : clear (carried_of shape x t m).faults ≡ true) where
    after_is : after ≡ after_of shape x t (operands_of shape x m.regs) m
    after_is =
        let e = carried_in shape x t m shaped in
        let c : clear (faults_of shape x t (operands_of shape x m.regs) m) ≡ true = sym (ap (λ (o : Outcome). clear o.faults) e) ∙ unfaulted in
        ap (λ (o : Outcome). o.after) e ∙ rw c refl

    -- AN EXECUTING LANE'S RD holds its result
    pub result_in_rd : target_by x.op ≡ to-register → (i : ℕ) → i < shape.width → has t i ≡ true
        → register shape after.regs i x.rd ≡ result_of shape x t m i
    unfolding after_of
    result_in_rd g i h e =
        let s = stands_rd shape x m.regs shaped x.op refl (rd_register x.op g) in
        ap (λ (l : Lent). register shape l.regs i x.rd) after_is
        ∙ rw g (written s t results i x.rd h s.low ∙ rw (e, eq-eqb x.rd x.rd refl) (result_at shape x t m (narrow shape x m.regs shaped) i h e))

    -- AND ITS BIT of the predicate that RD names says whether the comparison holds
    pub bit_in_predicate : target_by x.op ≡ to-predicate → (i : ℕ) → i < shape.width → has t i ≡ true
        → has after.predicate i ≡ eqb (result_of shape x t m i) 1
    unfolding after_of
    bit_in_predicate g i h e =
        ap (λ (l : Lent). has l.predicate i) after_is
        ∙ rw g (has_predicate shape.width m.predicate t results i ∙ rw (e, lt-ltb i shape.width h, result_at shape x t m (narrow shape x m.regs shaped) i h e) (or_left (has m.predicate i) _))
      where
        or_left : (a b : Bool) → ((a && false) || b) ≡ b
        or_left true b = refl
        or_left false b = refl

    -- EACH ATOMIC, in rising lane order, is of the word that the lanes below it left
    pub atomics_in_order : (o : AtomicOp) → x.op ≡ Op.Atomic o
        → after.memories.device
        ≡ work_of (rs1_of shape x m.regs) (λ i old. atomic_of o old (rs2_of shape x m.regs i)) t shape.width m.memories.device
    unfolding after_of changes_of
    atomics_in_order o is =
        let slim = narrow shape x m.regs shaped in
        ap (λ (l : Lent). l.memories.device) after_is
        ∙ rw is
        (same_turns shape x t m slim (gather_of shape m.regs x.rs1) (rs1_of shape x m.regs) (atomic_to o (read shape x t m slim (Op.Atomic o)))
        (λ i old. atomic_of o old (rs2_of shape x m.regs i)) shape.width (omega arith) (λ i h. reg shape x t m slim x.rs1 i h)
        (λ i old h. ap (atomic_of o old) (reg shape x t m slim x.rs2 i h)) m.memories.device)

    pub swaps_in_order : x.op ≡ Op.Cas
        → after.memories.device
        ≡ work_of (rs1_of shape x m.regs) (λ i old. swap_of old (rs2_of shape x m.regs i) (rs3_of shape x m.regs i)) t shape.width
        m.memories.device
    unfolding after_of changes_of
    swaps_in_order is =
        let slim = narrow shape x m.regs shaped in
        ap (λ (l : Lent). l.memories.device) after_is
        ∙ rw is
        (same_turns shape x t m slim (gather_of shape m.regs x.rs1) (rs1_of shape x m.regs) (swap_to (read shape x t m slim Op.Cas))
        (λ i old. swap_of old (rs2_of shape x m.regs i) (rs3_of shape x m.regs i)) shape.width (omega arith)
        (λ i h. reg shape x t m slim x.rs1 i h)
        (λ i old h. rw (reg shape x t m slim x.rs2 i h, reg shape x t m slim x.rs3 i h) refl) m.memories.device)

    -- ---- stores
    module _ (s : Space) (stores : x.op ≡ Op.Store s) where
      abbrev reach : ℕ → ℕ
      reach = reach_of shape x m.regs

      stored : memory_of s after.memories ≡ work_of reach (λ i old. rd_of shape x m.regs i) t shape.width (memory_of s m.memories)
      unfolding after_of changes_of
      stored =
          let slim = narrow shape x m.regs shaped in
          let at : List ℕ = addresses_of shape.width (gather_of shape m.regs x.rs1) x.number in
          ap (λ (l : Lent). memory_of s l.memories) after_is
          ∙ rw stores
          (of_space s m.memories (changes_of shape.width at (store_to (read shape x t m slim (Op.Store s))) t)
          ∙ same_turns shape x t m slim at reach (store_to (read shape x t m slim (Op.Store s))) (λ i old. rd_of shape x m.regs i) shape.width
          (omega arith)
          (λ i h. get_d_by_lane shape.width (λ k. address_of (get_or (gather_of shape m.regs x.rs1) k 0) x.number) i h slim ∙ ap (λ (a : ℕ). address_of a x.number) (reg shape x t m slim x.rs1 i h))
          (λ i old h. reg shape x t m slim x.rd i h) (memory_of s m.memories))
        where
          of_space : (q : Space) (y : Memories) (g : List ℕ → List ℕ) → memory_of q (changed q g y) ≡ g (memory_of q y)
          of_space Space.Device y g = refl
          of_space Space.Local y g = refl

      -- THE HIGHEST LANE'S STORE STAYS: of the executing lanes whose address names word k
      pub highest_stays : (k j : ℕ) → k < length (memory_of s m.memories) → Highest reach t shape.width k j
          → get_or (memory_of s after.memories) k 0 ≡ rd_of shape x m.regs j
      highest_stays k j r h =
          ap (λ (l : List ℕ). get_or l k 0) stored
          ∙ highest reach (λ i old. rd_of shape x m.regs i) t k (memory_of s m.memories) shape.width j h r

      -- a word that no executing lane's address names is as before
      pub word_as_before : (k : ℕ) → ((i : ℕ) → i < shape.width → has t i ≡ true → word_of (reach i) ≡ k → ⊥)
          → get_or (memory_of s after.memories) k 0 ≡ get_or (memory_of s m.memories) k 0
      word_as_before k none =
          ap (λ (l : List ℕ). get_or l k 0) stored
          ∙ untouched reach (λ i old. rd_of shape x m.regs i) t k (memory_of s m.memories) shape.width none
