-- Where the registers stand; reading a register of every lane, and the writer. Page 01, "One step".
use Rattle.std.specs.Prelude.{ℕ, ◌+◌, ◌*◌, ◌≤◌, ◌<◌, cond, List, length, get_or, set}
use Rattle.ground.specs.Lists.{in_order}
use Rattle.lanes.specs.Sets.{widest, has}
use Rattle.lanes.specs.EachLane.{by_lane}
use Rattle.compute.specs.declared.Shape.{Shape}

-- where register r of lane i stands, of W lanes with R registers each
unfoldable pub slot : ℕ → ℕ → ℕ → ℕ → ℕ
slot W R i r = i * R + r

-- the same, by the shape
abbrev pub slot_in : Shape → ℕ → ℕ → ℕ
slot_in shape i r = slot shape.width shape.registers i r

-- a lent buffer of registers, as the definitions read it: the registers of lane 0, then those of lane 1, ..
abbrev pub lanes_in : Shape → List ℕ → List ℕ
lanes_in shape l = l

-- register r of every lane
unfoldable pub gather_of : Shape → List ℕ → ℕ → List ℕ
gather_of shape regs r = by_lane shape.width (λ i. get_or regs (slot_in shape i r) 0)

-- the writer's turn at lane i: its result goes to its register d, if it executes
abbrev pub write_turn : Shape → ℕ → ℕ → List ℕ → ℕ → List ℕ → List ℕ
write_turn shape d t results i regs = cond (has t i) (set regs (slot_in shape i d) (get_or results i 0)) regs

-- the results of the lanes t, written to their registers d
unfoldable pub write_lanes : Shape → List ℕ → ℕ → ℕ → List ℕ → List ℕ
write_lanes shape regs d t results = in_order shape.width (write_turn shape d t results) regs

-- a wave no wider than the widest, and room in the buffer for the registers of every lane
pub record Roomy (shape : Shape) (regs : List ℕ) : Type 0 where
  pub narrow : shape.width ≤ widest
  pub room : shape.width * shape.registers ≤ length regs

-- register r of every lane stands within the buffer: what reading and writing ask for
pub record Stands (shape : Shape) (regs : List ℕ) (r : ℕ) : Type 0 where
  pub narrow : shape.width ≤ widest
  pub low : r < shape.registers
  pub room : shape.width * shape.registers ≤ length regs
