-- A step of the proofs: nothing that is said to the reader rests on this file.
-- A step of making: bodies that lie one after another.
use Rattle.std.specs.Prelude.{ℕ, ◌≡◌, length}
use mathlib.Core.List.{List, ◌++◌, flatten}
use Rattle.dayfile.specs.Day.{Layout, Listed}

-- s is n bodies that a day file can be made of, one after another, and then the rest
pub record Lying (L : Layout) (n : ℕ) (s rest : List ℕ) : Type 0 where
  pub bodies : List (List ℕ)
  pub listed : Listed L bodies
  pub count : length bodies ≡ n
  pub these : s ≡ flatten bodies ++ rest
