-- The open blocks: a block's part, and whether a loop is open. Page 01, "Blocks" and "The key".
use Rattle.std.specs.Prelude.{ℕ, ◌+◌, Bool, true, false, List, [], ◌∷◌, Option, Some, None}
use Rattle.lanes.specs.Blocks.{before_else, after_else, loop_part}
use Rattle.blocks.specs.declared.rules.Part.{Part}

-- the page's number of a part: 1 before ELSE, 2 after, 3 loop
abbrev pub part_number : Part → ℕ
part_number Part.Before = before_else
part_number Part.After = after_else
part_number Part.Loop = loop_part

-- an open block: its part and the place of its opener
pub data Open : Type 0 where
  opened_at : Part → ℕ → Open

abbrev pub part_number_of : Open → ℕ
part_number_of (opened_at part p) = part_number part

abbrev pub opener_of : Open → ℕ
opener_of (opened_at part p) = p

-- is there a loop among the open blocks?
unfoldable pub in_loop : List Open → Bool
in_loop [] = false
in_loop (opened_at Part.Before p ∷ o) = in_loop o
in_loop (opened_at Part.After p ∷ o) = in_loop o
in_loop (opened_at Part.Loop p ∷ o) = true

-- how many of the open blocks are loops
abbrev pub one_if_loop : Part → ℕ → ℕ
one_if_loop Part.Before n = n
one_if_loop Part.After n = n
one_if_loop Part.Loop n = n + 1

unfoldable pub loops : List Open → ℕ
loops [] = 0
loops (opened_at part p ∷ o) = one_if_loop part (loops o)

-- what the innermost open block is, if one is open
unfoldable pub innermost : List Open → Option Part
innermost [] = None
innermost (opened_at part p ∷ o) = Some part
