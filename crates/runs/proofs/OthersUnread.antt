-- AN EXECUTING LANE'S RESULT, of any instruction, rests on the registers of executing lanes alone: whatever the others hold, it is the same.
use mathlib.Core.Path.{◌≡◌, refl, ap}
use mathlib.Core.Bool.{Bool, true, false, cond}
use mathlib.Core.List.{List}
use Prim.Native.Nat.{ℕ, ◌<◌}
use native.Mathlib.Omega.{arith}
use lib.ListN.{get_or, set}
use Rattle.ground.proofs.Lists.{in_order_same}
use Rattle.lanes.specs.Sets.{has}
use Rattle.instructions.specs.declared.instr.Op.{Op}
use Rattle.instructions.specs.declared.instr.Instr.{Instr}
use Rattle.arith.specs.Arith.{atomic_of, swap_of, word_of}
use Rattle.across.proofs.Reading.{reads_executing, shuffle_reads}
use Rattle.compute.specs.declared.Shape.{Shape}
use Rattle.compute.specs.Operands.{Lent}
use Rattle.runs.specs.Results.{register, turn_at, found_by, rs1_of, rs2_of, rs3_of, result_by, result_of}

-- ---- lanes that take turns at a memory

module _ (t W : ℕ) (address address' : ℕ → ℕ) (f f' : ℕ → ℕ → ℕ) (at : (j : ℕ) → j < W → has t j ≡ true → address j ≡ address' j)
    (to : (j old : ℕ) → j < W → has t j ≡ true → f j old ≡ f' j old) where
  same_turn : (k : ℕ) → k < W → (l : List ℕ) → turn_at address f t k l ≡ turn_at address' f' t k l
  same_turn k h l = by (has t k) refl
    where
      by : (b : Bool) → has t k ≡ b
          → cond b (set l (word_of (address k)) (f k (get_or l (word_of (address k)) 0))) l ≡ cond b (set l (word_of (address' k)) (f' k (get_or l (word_of (address' k)) 0))) l
      by true e = rw (at k h e, to k (get_or l (word_of (address' k)) 0) h e) refl
      by false e = refl

  same_found : (memory : List ℕ) (i : ℕ) → i < W → has t i ≡ true → found_by address f t memory i ≡ found_by address' f' t memory i
  same_found memory i h e =
      rw (in_order_same i (turn_at address f t) (turn_at address' f' t) (λ k b l. same_turn k (omega arith) l) memory, at i h e) refl

-- ---- two machines whose executing lanes' registers agree, and whose memories are the same

module _ (shape : Shape) (x : Instr) (t : ℕ) (m m' : Lent) (memories : m.memories ≡ m'.memories)
    (agree : (j r : ℕ) → j < shape.width → has t j ≡ true → register shape m.regs j r ≡ register shape m'.regs j r) where
  abbrev W : ℕ
  W = shape.width

  result_same : (o : Op) (i : ℕ) → i < W → has t i ≡ true → result_by o shape x t m i ≡ result_by o shape x t m' i
  result_same (Op.Two o) i h e = rw (agree i x.rs1 h e, agree i x.rs2 h e) refl
  result_same (Op.Compare o) i h e = rw (agree i x.rs1 h e, agree i x.rs2 h e) refl
  result_same (Op.One o) i h e = rw (agree i x.rs1 h e) refl
  result_same Op.Special i h e = refl
  result_same Op.Number i h e = refl
  result_same (Op.Load s) i h e = rw (agree i x.rs1 h e, memories) refl
  result_same (Op.Store s) i h e = refl
  result_same (Op.Atomic o) i h e =
      rw memories
      (same_found t W (rs1_of shape x m.regs) (rs1_of shape x m'.regs) (λ j old. atomic_of o old (rs2_of shape x m.regs j))
      (λ j old. atomic_of o old (rs2_of shape x m'.regs j)) (λ j b u. agree j x.rs1 b u)
      (λ j old b u. ap (atomic_of o old) (agree j x.rs2 b u)) m'.memories.device i h e)
  result_same Op.Cas i h e =
      rw memories
      (same_found t W (rs1_of shape x m.regs) (rs1_of shape x m'.regs)
      (λ j old. swap_of old (rs2_of shape x m.regs j) (rs3_of shape x m.regs j)) (λ j old. swap_of old (rs2_of shape x m'.regs j) (rs3_of shape x m'.regs j))
      (λ j b u. agree j x.rs1 b u) (λ j old b u. rw (agree j x.rs2 b u, agree j x.rs3 b u) refl) m'.memories.device i h e)
  result_same (Op.Wave o) i h e =
      reads_executing o W t (rs1_of shape x m.regs) (rs1_of shape x m'.regs) (λ j b u. agree j x.rs1 b u) i (omega arith)
  result_same Op.Shuffle i h e =
      shuffle_reads W t (rs1_of shape x m.regs) (rs1_of shape x m'.regs) (rs2_of shape x m.regs) (rs2_of shape x m'.regs)
      (λ j b u. agree j x.rs1 b u) i (agree i x.rs2 h e)
  result_same (Op.Control o) i h e = refl

  -- THEOREM
  pub others_unread : (i : ℕ) → i < W → has t i ≡ true → result_of shape x t m i ≡ result_of shape x t m' i
  others_unread i h e = result_same x.op i h e
