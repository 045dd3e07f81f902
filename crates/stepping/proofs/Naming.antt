-- What an instruction's lanes work on. The predicate that a number names changes alone; given what it has, nothing changes.
use mathlib.Core.Path.{◌≡◌, refl}
use mathlib.Core.Bool.{Bool, true, false, cond}
use Prim.Native.Nat.{ℕ}
use native.Mathlib.Decide.{ℕ_discrete}
use lib.Dec.{eqb}
use borrow.Author.Tests.{ne_eqb}
use Rattle.instructions.specs.declared.instr.Instr.{Instr}
use Rattle.wave.specs.Wave.{Preds}
use Rattle.compute.specs.Operands.{Lent}
use Rattle.stepping.specs.Machine.{Machine, named, preds, with_named}

-- what an instruction's lanes work on: the predicate that RD names, the registers and the memories
abbrev pub lent_to_lem : Instr → Machine → Lent
lent_to_lem x m = record { predicate = named x.rd m.preds; regs = m.regs; memories = m.memories }

-- a, b, c: whether the number is 1, 2, 3
abbrev pub chosen : Bool → Bool → Bool → Preds → ℕ
chosen a b c ps = cond a ps.p1 (cond b ps.p2 (cond c ps.p3 0))

abbrev pub with_chosen : Bool → Bool → Bool → ℕ → Preds → Preds
with_chosen a b c q ps = cond a (preds q ps.p2 ps.p3) (cond b (preds ps.p1 q ps.p3) (cond c (preds ps.p1 ps.p2 q) ps))

chosen_same : (a b c : Bool) (ps : Preds) → with_chosen a b c (chosen a b c ps) ps ≡ ps
chosen_same true b c ps = refl
chosen_same false true c ps = refl
chosen_same false false true ps = refl
chosen_same false false false ps = refl

pub named_same : (k : ℕ) (ps : Preds) → with_named k (named k ps) ps ≡ ps
named_same k ps = chosen_same (eqb k 1) (eqb k 2) (eqb k 3) ps

-- each predicate by its own number: none is two of them
third_alone : (c : Bool) (q : ℕ) (ps : Preds) → preds ps.p1 ps.p2 (cond c q ps.p3) ≡ cond c (preds ps.p1 ps.p2 q) ps
third_alone true q ps = refl
third_alone false q ps = refl

pub named_each :
    (k q : ℕ) (ps : Preds) → preds (cond (eqb k 1) q ps.p1) (cond (eqb k 2) q ps.p2) (cond (eqb k 3) q ps.p3) ≡ with_named k q ps
named_each k q ps =
    elim (ℕ_discrete k 1) [
      | yes e ↦ rw e
      | no e ↦ rw (ne_eqb k 1 e)
          (elim (ℕ_discrete k 2) [
            | yes e ↦ rw e
            | no e ↦ rw (ne_eqb k 2 e) (third_alone (eqb k 3) q ps)
          ])
    ]
