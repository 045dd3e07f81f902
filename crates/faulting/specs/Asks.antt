-- A step of the proofs: nothing that is said to the reader rests on this file.
-- What is asked of a test that is handed in.
use Rattle.std.specs.Prelude.{◌≡◌, ℕ, ◌^◌, ◌<◌, Bool}

-- what a call answers of a register is p of it
abbrev pub Asks : (ℕ → Bool → Type 0) → (ℕ → Bool) → Type 0
Asks answers p = (n : ℕ) (r : Bool) → n < 2 ^ 32 → answers n r → r ≡ p n
