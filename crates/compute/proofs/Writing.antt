-- The writer. Its turn at a lane, as the code takes it; and what it leaves in each register, by the laws of `slot` alone.
use mathlib.Core.Path.{◌≡◌, refl, sym, ap, ◌∙◌}
use mathlib.Core.Bool.{Bool, true, false, ◌&&◌, cond}
use mathlib.Core.List.{List}
use Prim.Native.Nat.{ℕ, zero, suc, ◌≤◌, ◌<◌, min}
use native.Mathlib.Nat.{min-eq_left}
use native.Mathlib.Decide.{ℕ_discrete}
use native.Mathlib.Omega.{arith}
use lib.Dec.{eqb}
use lib.ListN.{length, get_or, set}
use lib.Seq.{get_or-set_same, get_or-set_other}
use borrow.Author.Tests.{eq-eqb, ne_eqb, lt-ltb}
use Rattle.ground.specs.Lists.{in_order}
use Rattle.ground.proofs.Lists.{length-in_order}
use Rattle.ground.proofs.Turns.{Turned, length-turned}
use Rattle.ground.proofs.Choices.{cond_by, set_cond, length_set_cond}
use Rattle.lanes.specs.Sets.{widest, has, first}
use Rattle.lanes.proofs.Members.{has_first}
use Rattle.compute.specs.declared.Shape.{Shape}
use Rattle.compute.specs.Registers.{slot_in, write_turn, write_lanes, Stands}
use Rattle.compute.proofs.Slots.{slot_inj, slot_in_lem}

-- the writer's turn at lane i: where it stands, whether it executes and what is chosen
pub write_turn_lem : (shape : Shape) (d t : ℕ) (results : List ℕ) (i : ℕ) (l : List ℕ) (k v : ℕ) (p : Bool) → k ≡ slot_in shape i d → p ≡ has t i
    → v ≡ cond p (get_or results i 0) (get_or l k 0) → set l k v ≡ write_turn shape d t results i l
write_turn_lem shape d t results i l k v p at e h =
    ap (set l k) h ∙ set_cond l k (get_or results i 0) p ∙ rw (at, e) refl

-- where every lane below the width executes
pub write_turn_all : (shape : Shape) (d : ℕ) (results : List ℕ) (i : ℕ) (l : List ℕ) (k : ℕ) → k ≡ slot_in shape i d → i < shape.width
    → set l k (get_or results i 0) ≡ write_turn shape d (first shape.width) results i l
write_turn_all shape d results i l k at b = rw (at, has_first shape.width i, lt-ltb i shape.width b) refl

pub length-write_turn : (shape : Shape) (d t : ℕ) (results : List ℕ) (i : ℕ) (l : List ℕ) → length (write_turn shape d t results i l) ≡ length l
length-write_turn shape d t results i l = length_set_cond l (slot_in shape i d) (get_or results i 0) (has t i)

-- ---- register s of lane j, after the writing

module _ {shape : Shape} {regs : List ℕ} {d : ℕ} (h : Stands shape regs d) (t : ℕ) (results : List ℕ) (j s : ℕ) (hj : j < shape.width) (hs : s < shape.registers) where
  abbrev turn : ℕ → List ℕ → List ℕ
  turn = write_turn shape d t results

  abbrev at : ℕ
  at = slot_in shape j s

  -- another lane's turn leaves it
  other : (l : List ℕ) (n : ℕ) → (j ≡ n → ⊥) → n < shape.width → get_or (turn n l) at 0 ≡ get_or l at 0
  other l n ne hn =
      cond_by (λ (k : List ℕ). get_or k at 0 ≡ get_or l at 0) (has t n) _ l
      (λ e. get_or-set_other l (slot_in shape n d) at (get_or results n 0) 0
      (λ q. ne (slot_inj shape.width shape.registers j s n d hj hs hn h.low q).0))
      (λ e. refl)

  -- its own lane's turn writes it, where it is the register named and the lane executes
  own : (l : List ℕ) → length l ≡ length regs → get_or (turn j l) at 0 ≡ cond (has t j && eqb s d) (get_or results j 0) (get_or l at 0)
  own l long = of (has t j)
    where
      of : (b : Bool) → get_or (cond b (set l (slot_in shape j d) (get_or results j 0)) l) at 0 ≡ cond (b && eqb s d) (get_or results j 0) (get_or l at 0)
      of true =
          elim (ℕ_discrete s d) [
            | yes e ↦ rw (eq-eqb s d e, e) (get_or-set_same l (slot_in shape j d) (get_or results j 0) 0 (rw long (slot_in_lem h j _ refl hj)))
            | no e ↦ rw (ne_eqb s d e) (get_or-set_other l (slot_in shape j d) at (get_or results j 0) 0
                (λ q. e (slot_inj shape.width shape.registers j s j d hj hs hj h.low q).1))
          ]
      of false = refl

  -- before its lane's turn it is as it was, and from then on as its lane's turn left it
  untouched : (n : ℕ) → n ≤ j → get_or (in_order n turn regs) at 0 ≡ get_or regs at 0
  unfolding in_order
  untouched zero b = refl
  untouched (suc n) b = other (in_order n turn regs) n (λ e. omega arith) (omega arith) ∙ untouched n (omega arith)

  touched : (n : ℕ) → j < n → n ≤ shape.width → get_or (in_order n turn regs) at 0 ≡ cond (has t j && eqb s d) (get_or results j 0) (get_or regs at 0)
  unfolding in_order
  touched zero b w = absurd (omega arith)
  touched (suc n) b w =
      elim (ℕ_discrete j n) [
        | yes q ↦ rw (← q)
            (own (in_order j turn regs) (length-in_order turn (length-write_turn shape d t results) j regs)
            ∙ ap (λ (x : ℕ). cond (has t j && eqb s d) (get_or results j 0) x) (untouched j (omega arith)))
        | no q ↦ other (in_order n turn regs) n q (omega arith) ∙ touched n (omega arith) (omega arith)
      ]

  -- the result where the lane executes and the register is the one named, and else what was there
  pub written : get_or (write_lanes shape regs d t results) at 0 ≡ cond (has t j && eqb s d) (get_or results j 0) (get_or regs at 0)
  unfolding write_lanes
  written = touched shape.width hj (omega arith)

pub length-write_lanes : (shape : Shape) (regs : List ℕ) (d t : ℕ) (results : List ℕ) → length (write_lanes shape regs d t results) ≡ length regs
unfolding write_lanes
length-write_lanes shape regs d t results = length-in_order (write_turn shape d t results) (length-write_turn shape d t results) shape.width regs

-- a set that is every lane below the width
pub write_lanes_all : {shape : Shape} {regs : List ℕ} {d : ℕ} → Stands shape regs d → (t : ℕ) (results : List ℕ) → t ≡ first (min shape.width widest)
    → write_lanes shape regs d (first shape.width) results ≡ write_lanes shape regs d t results
write_lanes_all {shape} {regs} {d} h t results e =
    ap (λ (s : ℕ). write_lanes shape regs d s results) (sym (e ∙ ap first (min-eq_left h.narrow)))

-- a lane's register stands within the buffer, however many lanes have had their turns
pub write_inside : {shape : Shape} {d : ℕ} {before now : List ℕ} {i : ℕ} → Stands shape before d → (t : ℕ) (results : List ℕ)
    → Turned shape.width (write_turn shape d t results) before now i → (j k : ℕ) → k ≡ slot_in shape j d → j < shape.width → k < length now
write_inside {shape} {d} h t results turned j k e b =
    rw (length-turned (length-write_turn shape d t results) turned) (slot_in_lem h j k e b)
