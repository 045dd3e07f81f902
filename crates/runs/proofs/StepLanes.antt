-- What a step leaves, lane by lane and word by word, where it is in shape and no lane faults.
use Rattle.instructions.specs.declared.instr.ControlOp.{ControlOp}
use Rattle.std.specs.Prelude.{Option, Some, None}
use Prim.Native.Nat.{ℕ, zero, suc, ◌≤◌, ◌<◌}
use native.Mathlib.Omega.{arith}
use mathlib.Core.Path.{◌≡◌, refl, sym, ap, ◌∙◌}
use mathlib.Core.Bool.{true, ◌&&◌}
use lib.Dec.{eqb, leb}
use borrow.Author.Tests.{leb-true}
use Rattle.ground.proofs.Bools.{and_left, and_right}
use lib.ListN.{length, get_or}
use Rattle.lanes.specs.Sets.{has}
use Rattle.instructions.specs.declared.instr.Op.{Op}
use Rattle.instructions.specs.declared.instr.Space.{Space}
use Rattle.instructions.specs.declared.instr.Instr.{Instr}
use Rattle.instructions.specs.Forms.{limits_of, guard_fits, second_fits, fits, valid}
use Rattle.words.specs.declared.reading.Fetched.{Fetched}
use Rattle.fetching.specs.Fetching.{control_in}
use Rattle.fetching.proofs.Fetches.{control_is}
use Rattle.wave.specs.Wave.{Preds}
use Rattle.arith.specs.Arith.{word_of}
use Rattle.faulting.specs.Kinds.{clear}
use Rattle.compute.specs.declared.Shape.{Shape}
use Rattle.compute.specs.Memory.{memory_of}
use Rattle.compute.specs.Operands.{Lent}
use Rattle.compute.specs.Values.{register as to-register, predicate as to-predicate, nothing as to-nothing, target_by}
use Rattle.compute.specs.Carrying.{Outcome, in_shape}
use Rattle.runs.specs.Results.{register, rd_of, reach_of, result_of, Highest, Changes}
use Rattle.compute.proofs.Carrying.{control}
use Rattle.runs.proofs.LaneByLane.{others_as_before, result_in_rd, bit_in_predicate, memory_as_before, highest_stays, word_as_before}
use Rattle.stepping.specs.declared.settings.Settings.{Settings}
use Rattle.stepping.specs.Machine.{Machine, named, with_named}
use Rattle.stepping.specs.Step.{shape_of, launched_of, lanes_of, computed, faults_by, carried_by, step_of}
use Rattle.runs.specs.Running.{lent_of}

-- a predicate that was given lanes has them
named_with : (k q : ℕ) (ps : Preds) → 1 ≤ k → k ≤ 3 → named k (with_named k q ps) ≡ q
named_with zero q ps a b = absurd (omega arith)
named_with (suc zero) q ps a b = refl
named_with (suc (suc zero)) q ps a b = refl
named_with (suc (suc (suc zero))) q ps a b = refl
named_with (suc (suc (suc (suc k)))) q ps a b = absurd (omega arith)

-- the register RD is no predicate, and neither is nothing
not_register : to-register ≡ to-predicate → ⊥
not_register g = let z : ◌≡◌ {A = ℕ} 0 1 = cc in omega arith

not_nothing : to-nothing ≡ to-predicate → ⊥
not_nothing g = let z : ◌≡◌ {A = ℕ} 0 1 = cc in omega arith

-- what an instruction that words give has in RD, where it names a predicate: 1 to 3
names_predicate : (x : Instr) (o : Op) → x.op ≡ o → valid x ≡ true → target_by o ≡ to-predicate → (1 ≤ x.rd) × (x.rd ≤ 3)
names_predicate x (Op.Compare c) e ok g =
    let o = Op.Compare c in
    let last = leb x.rs1 (limits_of o).rs1 && second_fits (limits_of o).second x in
    let most = leb x.rd 3 && last in
    let both = and_right (guard_fits (limits_of o).need x.guard) (leb 1 x.rd && most) (sym (ap (λ (p : Op). fits (limits_of p) x) e) ∙ ok) in
    (leb-true 1 x.rd (and_left (leb 1 x.rd) most both), leb-true x.rd 3 (and_left (leb x.rd 3) last (and_right (leb 1 x.rd) most both)))
names_predicate x (Op.Two o) e ok g = absurd (not_register g)
names_predicate x (Op.One o) e ok g = absurd (not_register g)
names_predicate x Op.Special e ok g = absurd (not_register g)
names_predicate x Op.Number e ok g = absurd (not_register g)
names_predicate x (Op.Load q) e ok g = absurd (not_register g)
names_predicate x (Op.Store q) e ok g = absurd (not_nothing g)
names_predicate x (Op.Atomic o) e ok g = absurd (not_register g)
names_predicate x Op.Cas e ok g = absurd (not_register g)
names_predicate x (Op.Wave o) e ok g = absurd (not_register g)
names_predicate x Op.Shuffle e ok g = absurd (not_register g)
names_predicate x (Op.Control o) e ok g = absurd (not_nothing g)

module _ (s : Settings) (f : Fetched) (m : Machine) where
  abbrev x : Instr
  x = f.instr

  -- the executing lanes, and what they are lent
  abbrev t : ℕ
  t = lanes_of x m

  abbrev lent : Lent
  lent = lent_of x m

  abbrev shape : Shape
  shape = shape_of s

  -- where no lane faults, the lanes' work doesn't: that of a control instruction never does
  work_clear : (c : Option ControlOp) → control_in x.op ≡ c → clear (faults_by c (launched_of s) m.wave (computed s x t m).faults) ≡ true
      → clear (computed s x t m).faults ≡ true
  work_clear (Some o) e h = ap (λ (y : Outcome). clear y.faults) (control shape x t lent o (control_is x.op o e))
  work_clear None e h = h

  module _ (unfaulted : clear (step_of s f m).faults ≡ true) where
    goes : (step_of s f m).end ≡ carried_by s f t m
    unfolding step_of
    goes = rw unfaulted refl

    lanes_clear : clear (computed s x t m).faults ≡ true
    unfolding step_of
    lanes_clear = work_clear (control_in x.op) refl unfaulted

    -- EVERY OTHER REGISTER of every lane is as before
    pub step_others : (i r : ℕ) → i < s.width → r < s.registers → (target_by x.op ≡ to-register → has t i ≡ true → r ≡ x.rd → ⊥)
        → register shape (step_of s f m).end.regs i r ≡ register shape m.regs i r
    step_others i r hi hr other = ap (λ (k : Machine). register shape k.regs i r) goes ∙ others_as_before shape x t lent i r hi hr other

    -- A MEMORY that the operation doesn't change is as before
    pub step_memory : (q : Space) → (Changes x.op q → ⊥) → memory_of q (step_of s f m).end.memories ≡ memory_of q m.memories
    step_memory q g = ap (λ (k : Machine). memory_of q k.memories) goes ∙ memory_as_before shape x t lent q g

    module _ (shaped : in_shape shape x m.regs ≡ true) where
      -- AN EXECUTING LANE'S RD holds its result
      pub step_result : target_by x.op ≡ to-register → (i : ℕ) → i < s.width → has t i ≡ true
          → register shape (step_of s f m).end.regs i x.rd ≡ result_of shape x t lent i
      step_result g i h e =
          ap (λ (k : Machine). register shape k.regs i x.rd) goes ∙ result_in_rd shape x t lent shaped lanes_clear g i h e

      -- AND ITS BIT of the predicate that a comparison's RD names says whether it holds
      pub step_bit : valid x ≡ true → target_by x.op ≡ to-predicate → (i : ℕ) → i < s.width → has t i ≡ true
          → has (named x.rd (step_of s f m).end.preds) i ≡ eqb (result_of shape x t lent i) 1
      step_bit ok g i h e =
          let rd = names_predicate x x.op refl ok g in
          ap (λ (k : Machine). has (named x.rd k.preds) i) goes
          ∙ ap (λ (p : ℕ). has p i) (named_with x.rd (computed s x t m).after.predicate m.preds rd.0 rd.1)
          ∙ bit_in_predicate shape x t lent shaped lanes_clear g i h e

      module _ (q : Space) (stores : x.op ≡ Op.Store q) where
        -- THE HIGHEST LANE'S STORE STAYS
        pub step_store : (k j : ℕ) → k < length (memory_of q m.memories) → Highest (reach_of shape x m.regs) t s.width k j
            → get_or (memory_of q (step_of s f m).end.memories) k 0 ≡ rd_of shape x m.regs j
        step_store k j r h =
            ap (λ (y : Machine). get_or (memory_of q y.memories) k 0) goes ∙ highest_stays shape x t lent shaped lanes_clear q stores k j r h

        -- and a word that no executing lane's address names is as before
        pub step_word : (k : ℕ) → ((i : ℕ) → i < s.width → has t i ≡ true → word_of (reach_of shape x m.regs i) ≡ k → ⊥)
            → get_or (memory_of q (step_of s f m).end.memories) k 0 ≡ get_or (memory_of q m.memories) k 0
        step_word k none =
            ap (λ (y : Machine). get_or (memory_of q y.memories) k 0) goes
            ∙ word_as_before shape x t lent shaped lanes_clear q stores k none
