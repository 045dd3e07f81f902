-- A step of the proofs: nothing that is said to the reader rests on this file.
-- Things for which a format has room, written into a buffer: one, and one behind another.
use Rattle.std.specs.Prelude.{ℕ, ◌≡◌, true}
use mathlib.Core.List.{List, flat_map}
use Rattle.ground.specs.Tests.{all_of}
use Rattle.numbers.specs.Placed.{placed}
use Rattle.formats.specs.Format.{Format}

pub record Put {A : Type 0} (F : Format A) (a : A) (out : List ℕ) (at : ℕ) (now : List ℕ) : Type 0 where
  pub room : F.fits a ≡ true
  pub stands : now ≡ placed out at (F.write a)

pub record PutAll {A : Type 0} (F : Format A) (xs : List A) (out : List ℕ) (at : ℕ) (now : List ℕ) : Type 0 where
  pub room : all_of F.fits xs ≡ true
  pub stands : now ≡ placed out at (flat_map F.write xs)
