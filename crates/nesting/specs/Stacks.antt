-- A step of the proofs: nothing that is said to the reader rests on this file.
-- What the steps over a stack of open blocks promise, for every list of blocks that the stack holds.
use Rattle.std.specs.Prelude.{ℕ, ◌≤◌, ◌≡◌, List, length, Option, Some, None}
use Rattle.lanes.specs.Blocks.{nesting}
use Rattle.blocks.specs.declared.rules.Part.{Part}
use Rattle.nesting.specs.declared.places.Stack.{Stack}
use Rattle.blocks.specs.Open.{Open, loops, innermost}
use Rattle.blocks.specs.Scan.{Next, over, go, ended}
use Rattle.nesting.specs.OpenAt.{slots}
use Rattle.blocks.specs.Levels.{around}

-- a stack that holds these blocks
pub record Holds (s : Stack) (o : List Open) : Type 0 where
  pub at_most : length o ≤ nesting
  pub depth_is : s.depth ≡ length o
  pub loops_is : s.loops ≡ loops o
  pub blocks_are : s.blocks ≡ slots o

-- the open blocks o become n: the innermost turns to another part
pub record Turned (inside : Option Part) (o n : List Open) : Type 0 where
  pub inside_is : innermost n ≡ inside
  pub round : around n ≡ around o
  pub at_end : ended n ≡ ended o
  pub loops_same : loops n ≡ loops o

-- what `advance` says of the pass's step
abbrev pub Advances : Next → Option ℕ → Stack → Type 0
Advances (over v) r s = r ≡ None
Advances (go at o) r s = (r ≡ Some at) × Holds s o
