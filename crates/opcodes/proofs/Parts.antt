-- The parts of the table. The opcodes of a part begin with one digit, so an opcode is found in its own part or nowhere; and a part with no
-- modifiers is searched by opcode alone.
use Rattle.std.specs.Prelude.{Some, None}
use mathlib.Core.Path.{◌≡◌, refl, ap, ◌∙◌}
use mathlib.Core.Bool.{Bool, true, cond, ◌&&◌, and-true, and-false}
use mathlib.Core.List.{List, [], ◌∷◌, ◌++◌}
use Prim.Native.Nat.{ℕ, ◌≤◌, ◌<◌, ◌/◌}
use native.Mathlib.Omega.{arith}
use lib.Dec.{eqb}
use borrow.Author.Tests.{eq-eqb, ne_eqb, eqb-true}
use Rattle.ground.proofs.Bools.{and_left, and_right}
use Rattle.instructions.specs.declared.instr.Op.{Op}
use Rattle.opcodes.specs.Table.{opcode_of, sums, bitwise, moves, accesses, in_registers, reaching, controls, find, has, op_of}
use Rattle.opcodes.specs.Named.{numbered}

-- the opcodes of a list begin with the digit d
abbrev begin : ℕ → List Op → Bool
begin d [] = true
begin d (o ∷ os) = eqb (opcode_of o / 16) d && begin d os

-- where nothing is found in what follows, only the first list counts
find_before : (test : Op → Bool) (os ps : List Op) → find test ps ≡ None → find test (os ++ ps) ≡ find test os
find_before test [] ps e = e
find_before test (o ∷ os) ps e = ap (cond (test o) (Some o)) (find_before test os ps e)

module _ (c m : ℕ) where
  -- an opcode that begins with another digit is looked for in what follows
  find_after : (d : ℕ) (os ps : List Op) → begin d os ≡ true → (c / 16 ≡ d → ⊥) → find (has c m) (os ++ ps) ≡ find (has c m) ps
  find_after d [] ps b n = refl
  find_after d (o ∷ os) ps b n =
      let here : opcode_of o / 16 ≡ d = eqb-true (opcode_of o / 16) d (and_left (eqb (opcode_of o / 16) d) (begin d os) b) in
      rw (ne_eqb c (opcode_of o) (λ e. n (ap (λ (k : ℕ). k / 16) e ∙ here)))
      (find_after d os ps (and_right (eqb (opcode_of o / 16) d) (begin d os) b) n)

  -- ---- the table in three
  pub of_registers : (c / 16 ≡ 3 → ⊥) → op_of c m ≡ find (has c m) in_registers
  of_registers n = find_before (has c m) in_registers (reaching ++ controls) (find_after 3 (reaching ++ controls) [] refl n)

  pub of_reaching : c / 16 ≡ 3 → (c ≡ 0x3F → ⊥) → op_of c m ≡ find (has c m) reaching
  of_reaching e n =
      find_after 0 sums (bitwise ++ (moves ++ (reaching ++ controls))) refl (λ z. omega arith)
      ∙ find_after 2 bitwise (moves ++ (reaching ++ controls)) refl (λ z. omega arith)
      ∙ find_after 15 moves (reaching ++ controls) refl (λ z. omega arith)
      ∙ find_before (has c m) reaching controls (simp (ne_eqb c 0x3F n))

  pub of_control : c ≡ 0x3F → op_of c m ≡ find (has 0x3F m) controls
  of_control e = rw e refl

  -- ---- those of registers
  pub none_modified : (m ≡ 0 → ⊥) → find (has c m) in_registers ≡ None
  none_modified n = simp (ne_eqb m 0 n, and-false)

  module _ (plain : m ≡ 0) where
    pub among_sums : c < 0x10 → find (has c m) in_registers ≡ numbered opcode_of sums c
    among_sums h =
        find_before (has c m) sums (bitwise ++ moves)
        (find_after 2 bitwise moves refl (λ z. omega arith) ∙ find_after 15 moves [] refl (λ z. omega arith))
        ∙ simp (eq-eqb m 0 plain, and-true)

    pub among_bitwise : 0x10 ≤ c → c < 0x30 → find (has c m) in_registers ≡ numbered opcode_of bitwise c
    among_bitwise l h =
        find_after 0 sums (bitwise ++ moves) refl (λ z. omega arith)
        ∙ find_before (has c m) bitwise moves (find_after 15 moves [] refl (λ z. omega arith)) ∙ simp (eq-eqb m 0 plain, and-true)

    pub among_moves : 0x30 ≤ c → find (has c m) in_registers ≡ numbered opcode_of moves c
    among_moves l =
        find_after 0 sums (bitwise ++ moves) refl (λ z. omega arith) ∙ find_after 2 bitwise moves refl (λ z. omega arith)
        ∙ simp (eq-eqb m 0 plain, and-true)

  -- ---- those that reach beyond registers
  module _ (atomic : c ≡ 0x3C → ⊥) (wave : c ≡ 0x3E → ⊥) where
    pub among_accesses : m ≡ 0 → find (has c m) reaching ≡ numbered opcode_of accesses c
    among_accesses e = simp (ne_eqb c 0x3C atomic, ne_eqb c 0x3E wave, eq-eqb m 0 e, and-true)

    pub not_listed : (m ≡ 0 → ⊥) → find (has c m) reaching ≡ None
    not_listed n = simp (ne_eqb c 0x3C atomic, ne_eqb c 0x3E wave, ne_eqb m 0 n, and-false)
