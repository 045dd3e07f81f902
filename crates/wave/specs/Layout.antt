-- The open blocks in an array, outermost first. As a list they stand innermost first.
use Rattle.std.specs.Prelude.{ℕ, zero, suc, ◌-◌, Bool, List, [], ◌∷◌, length, drop, replicate, ◌==◌, slice_index_or}
use Rattle.lanes.specs.Blocks.{nesting, loop_part}
use Rattle.lanes.specs.declared.said.Block.{Block}

-- how many numbers a block is
abbrev pub block_numbers : ℕ
block_numbers = 6

-- is it a loop?
abbrev pub is_loop : Block → Bool
is_loop b = b.part == loop_part

-- what stands where no block is open
abbrev pub no_block : Block
no_block = record { part = 0; opener = 0; entered = 0; aside = 0; again = 0; left = 0 }

-- a path laid out, and then the rest
abbrev pub laid : List Block → List Block → List Block
laid [] rest = rest
laid (b ∷ bs) rest = laid bs (b ∷ rest)

-- the array of a path: zeros past its blocks
abbrev pub array_of : List Block → List Block
array_of p = laid p (replicate (nesting - length p) no_block)

-- block k of an array, zeros past its end
abbrev pub block_at : List Block → ℕ → Block
block_at xs k = slice_index_or xs k no_block

-- the first n blocks of an array
abbrev pub opened : List Block → ℕ → List Block
opened xs zero = []
opened xs (suc n) = block_at xs n ∷ opened xs n

-- an array over whose first blocks a path was laid
abbrev pub over : List Block → List Block → List Block
over p xs = laid p (drop (length p) xs)
