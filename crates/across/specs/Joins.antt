-- A step of the proofs: nothing that is said to the reader rests on this file.
-- What is asked of an operation that is handed in.
use Rattle.std.specs.Prelude.{◌≡◌, ℕ, ◌^◌, ◌<◌}
use Rattle.instructions.specs.declared.instr.TwoOp.{TwoOp}
use Rattle.arith.specs.Arith.{two_of}

-- what a call answers to two registers is what o gives of them
abbrev pub Joins : (ℕ → ℕ → ℕ → Type 0) → TwoOp → Type 0
Joins answers o = (a b r : ℕ) → a < 2 ^ 32 → b < 2 ^ 32 → answers a b r → r ≡ two_of o a b
