-- A test: theorems hold it to the page's words, as `fits` `Opens` has them.
-- Which blocks are open at a place, and whether an instruction starts or the code ends there.
use Rattle.std.specs.Prelude.{ℕ, zero, suc, cond, List, [], ◌∷◌, length, replicate, set, eqb, Option, Some, None}
use Rattle.lanes.specs.Blocks.{nesting}
use Rattle.nesting.specs.declared.places.OpenBlock.{OpenBlock}
use Rattle.nesting.specs.declared.places.Stack.{Stack}
use Rattle.blocks.specs.declared.rules.Part.{Part}
use Rattle.blocks.specs.Code.{Code}
use Rattle.blocks.specs.Open.{Open, opened_at, loops}
use Rattle.blocks.specs.Scan.{carry, step}

-- the open blocks of a place, if it is found
abbrev pub Found : Type 0
Found = Option (List Open)

-- at most n instructions from `at` on, to the place
unfoldable pub seek : Code → ℕ → ℕ → ℕ → List Open → Found
seek code place zero at o = cond (eqb at place) (Some o) None
seek code place (suc n) at o = cond (eqb at place) (Some o) (carry (λ v. None) (seek code place n) (step code at o))

-- the walk from `at` to the place
unfoldable pub walk : Code → ℕ → ℕ → List Open → Found
walk code place at o = seek code place code.size at o

-- the open blocks at a place, innermost first; none if the pass does not come by it: a second word, past the end, or behind a refusal
abbrev pub open_at : Code → ℕ → Found
open_at code place = walk code place 0 []

-- an open block as a stack has it
abbrev pub block_of : Open → OpenBlock
block_of (opened_at part p) = record { part = part; opener = p }

-- what stands past the open blocks
abbrev pub unused : OpenBlock
unused = record { part = Part.Before; opener = 0 }

-- the blocks of a stack, the outermost at 0
unfoldable pub slots : List Open → List OpenBlock
slots [] = replicate nesting unused
slots (b ∷ o) = set (slots o) (length o) (block_of b)

-- the open blocks as `open_at` answers them
abbrev pub stack_of : List Open → Stack
stack_of o = record { depth = length o; loops = loops o; blocks = slots o }

abbrev pub shown : Found → Option Stack
shown None = None
shown (Some o) = Some (stack_of o)
