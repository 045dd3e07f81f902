-- A step of the proofs: nothing that is said to the reader rests on this file.
-- What a search of the code by one number promises: the operation of a list that has the number, or that none has it. `Named` says it arm by
-- arm, in the order of the list; it is `numbered` said again (proofs/Lookup.antt).
use Rattle.std.specs.Prelude.{◌≡◌, List, [], ◌∷◌, ℕ, eqb, Option, Some, None}
use Rattle.instructions.specs.declared.instr.Op.{Op}
use Rattle.opcodes.specs.Table.{find}

-- the operation of a list whose number, by f, is n
abbrev pub numbered : (Op → ℕ) → List Op → ℕ → Option Op
numbered f os n = find (λ (o : Op). eqb n (f o)) os

-- no operation of a list has the number n, and N
abbrev pub NotIn : Type 0 → (Op → ℕ) → List Op → ℕ → Type 0
NotIn N f [] n = N
NotIn N f (o ∷ os) n = NotIn (N × (n ≡ f o → ⊥)) f os n

-- what is found has the number, and is found by it; or nothing has the number
abbrev pub Named : (Op → ℕ) → List Op → ℕ → Option Op → Type 0
Named f os n (Some o) = (n ≡ f o) × (numbered f os (f o) ≡ Some o)
Named f os n None = NotIn (Unit {0}) f os n
