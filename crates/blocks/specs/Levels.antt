-- A step of the proofs: nothing that is said to the reader rests on this file.
-- What the recursive check says of one block, against the pass of `Scan`.
use Rattle.std.specs.Prelude.{ℕ, ◌+◌, ◌≤◌, ◌≡◌, Bool, List, [], ◌∷◌, length, Option, Some, None, Result, Ok, Err}
use Rattle.lanes.specs.Blocks.{nesting}
use Rattle.refusals.specs.declared.Refusal.{Refusal}
use Rattle.blocks.specs.declared.rules.Part.{Part}
use Rattle.blocks.specs.Code.{Code}
use Rattle.blocks.specs.Open.{Open, opened_at, in_loop, innermost}
use Rattle.blocks.specs.Scan.{Checked, ended, run}

-- how a level ends: closed, with the place after its end; by the end of the code; or refused
abbrev pub LevelEnd : Type 0
LevelEnd = Result (Option ℕ) Refusal

-- the blocks around the innermost
unfoldable pub around : List Open → List Open
around [] = []
around (opened_at part p ∷ o) = o

-- these blocks are open where a level has this room, is directly inside this, and in a loop or not
pub record InLevel (room : ℕ) (inside : Option Part) (in-a-loop : Bool) (o : List Open) : Type 0 where
  pub inside_is : innermost o ≡ inside
  pub room_is : length o + room ≡ nesting
  pub loop_is : in_loop o ≡ in-a-loop

-- what the pass with the blocks o open comes to, from the answer for their innermost
abbrev pub follows : Code → List Open → LevelEnd → Checked
follows code o (Ok (Some at)) = run code at (around o)
follows code o (Err r) = Err r
follows code o (Ok None) = ended o

-- a block that was closed ends in the code
abbrev pub Within : Code → ℕ → LevelEnd → Type 0
Within code from (Ok (Some at)) = (from ≤ at) × (at ≤ code.size)
Within code from (Err r) = Unit {0}
Within code from (Ok None) = Unit {0}

-- and is a block: where none is open there is nothing to close
abbrev pub Shut : List Open → LevelEnd → Type 0
Shut o (Ok (Some at)) = o ≡ [] → ⊥
Shut o (Err r) = Unit {0}
Shut o (Ok None) = Unit {0}

-- what `level` promises
pub record LevelSays (code : Code) (from room : ℕ) (inside : Option Part) (in-a-loop : Bool) (r : LevelEnd) : Type 0 where
  pub within : Within code from r
  pub shut : (o : List Open) → InLevel room inside in-a-loop o → Shut o r
  pub same : (o : List Open) → InLevel room inside in-a-loop o → run code from o ≡ follows code o r
