-- Finding an operation by its numbers. What is found passes the test it was found by; and a search of the code by one number (`Named`) gives
-- what the search by opcode and modifier does.
use Rattle.std.specs.Prelude.{Option, Some, None}
use mathlib.Core.Path.{◌≡◌, refl, sym, ap, ◌∙◌}
use mathlib.Core.Bool.{Bool, true, false, cond}
use mathlib.Core.List.{List, [], ◌∷◌}
use Prim.Native.Nat.{ℕ}
use native.Mathlib.Omega.{arith}
use lib.Dec.{eqb}
use borrow.Author.Tests.{ne_eqb, eqb-true}
use Rattle.ground.proofs.Bools.{and_left, and_right}
use Rattle.instructions.specs.declared.instr.Op.{Op}
use Rattle.opcodes.specs.Table.{opcode_of, modifier_of, operations, find, has, op_of}
use Rattle.opcodes.specs.Named.{numbered, NotIn, Named}

-- what is found passes the test
find_passes : (test : Op → Bool) (os : List Op) (o : Op) → find test os ≡ Some o → test o ≡ true
find_passes test [] o e = absurd (let z : ◌≡◌ {A = ℕ} 0 1 = cc in omega arith)
find_passes test (k ∷ os) o e = first (test k) refl e (find_passes test os o)
  where
    first :
        (b : Bool) → test k ≡ b → cond b (Some k) (find test os) ≡ Some o →
        (find test os ≡ Some o → test o ≡ true) → test o ≡ true
    first true p e later = let s : k ≡ o = cc in sym (ap test s) ∙ p
    first false p e later = later e

-- the operation of an opcode and a modifier has them
pub op_opcode : (c m : ℕ) (o : Op) → op_of c m ≡ Some o → c ≡ opcode_of o
op_opcode c m o e =
    eqb-true c (opcode_of o) (and_left (eqb c (opcode_of o)) (eqb m (modifier_of o)) (find_passes (has c m) operations o e))

pub op_modifier : (c m : ℕ) (o : Op) → op_of c m ≡ Some o → m ≡ modifier_of o
op_modifier c m o e =
    eqb-true m (modifier_of o) (and_right (eqb c (opcode_of o)) (eqb m (modifier_of o)) (find_passes (has c m) operations o e))

not_in : (N : Type 0) (f : Op → ℕ) (os : List Op) (n : ℕ) → NotIn N f os n → N × (numbered f os n ≡ None)
not_in N f [] n h = (h, refl)
not_in N f (o ∷ os) n h =
    let p : (N × (n ≡ f o → ⊥)) × (numbered f os n ≡ None) = not_in (N × (n ≡ f o → ⊥)) f os n h in
    (p.0.0, rw (ne_eqb n (f o) p.0.1) p.1)

-- a search of the code gives the operation of its list with the number
pub named_find : (f : Op → ℕ) (os : List Op) (n : ℕ) (r : Option Op) → Named f os n r → r ≡ numbered f os n
named_find f os n (Some o) h = sym (ap (numbered f os) h.0 ∙ h.1)
named_find f os n None h = sym (not_in (Unit {0}) f os n h).1
