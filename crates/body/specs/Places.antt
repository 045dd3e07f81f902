-- A step of the proofs: nothing that is said to the reader rests on this file.
-- Where the fields of a body stand, the sets of lanes w bytes long: what code goes by.
use Rattle.std.specs.Prelude.{ℕ, ◌+◌, ◌*◌, List}
use Rattle.numbers.specs.Numbers.{number_at}
use Rattle.formats.specs.Places.{read_at}
use Rattle.lanes.specs.declared.said.Block.{Block}
use Rattle.lanes.specs.declared.said.Fault.{Fault}
use Rattle.body.specs.Body.{fault_format, block_format}
use Rattle.body.specs.Layout.{fault_bytes}

-- kernel number, place, count of fault kinds, and the kinds
abbrev pub kernel_place : ℕ
kernel_place = 0

abbrev pub place_place : ℕ
place_place = 4

abbrev pub count_place : ℕ
count_place = 8

abbrev pub kinds_place : ℕ
kinds_place = 12

-- the count of fault kinds
unfoldable pub count_at : List ℕ → ℕ
count_at s = number_at s count_place

-- behind n kinds the active and the halted lanes, then the depth, then the blocks
abbrev pub active_place : ℕ → ℕ → ℕ
active_place w n = kinds_place + fault_bytes w * n

abbrev pub depth_place : ℕ → ℕ → ℕ
depth_place w n = active_place w n + w + w

abbrev pub blocks_place : ℕ → ℕ → ℕ
blocks_place w n = depth_place w n + 4

-- the depth
unfoldable pub depth_at : ℕ → List ℕ → ℕ
depth_at w s = number_at s (depth_place w (count_at s))

-- a fault kind with its lanes, and a block, p bytes from the front
abbrev pub fault_at : ℕ → List ℕ → ℕ → Fault
fault_at w s p = read_at (fault_format w) s p

abbrev pub block_at : ℕ → List ℕ → ℕ → Block
block_at w s p = read_at (block_format w) s p
