-- What the blocks see of an instruction: plain with a width, or one of the block instructions; or its refusal.
use Rattle.words.specs.declared.reading.Fetched.{Fetched}
use Rattle.std.specs.Prelude.{ℕ, cond, List, Result, Ok, Err, Option, Some, None}
use Rattle.refusals.specs.declared.Refusal.{Refusal}
use Rattle.refusals.specs.declared.Rule.{Rule}
use Rattle.refusals.specs.Table.{broken}
use Rattle.instructions.specs.declared.instr.ControlOp.{ControlOp}
use Rattle.instructions.specs.declared.instr.Op.{Op}
use Rattle.fetching.specs.Fetching.{control_in}
use Rattle.words.specs.Reading.{read_at}
use Rattle.instructions.specs.Registers.{registers_below}
use Rattle.blocks.specs.declared.item.Item.{Item}
use Rattle.blocks.specs.declared.item.Reading.{Reading}

-- a control instruction, which is one word; HALT, BARRIER and NOP have no part in blocks
abbrev pub control_item : ControlOp → Item
control_item ControlOp.If = Item.If
control_item ControlOp.Else = Item.Else
control_item ControlOp.Endif = Item.Endif
control_item ControlOp.Loop = Item.Loop
control_item ControlOp.Break = Item.Jump
control_item ControlOp.Continue = Item.Jump
control_item ControlOp.Endloop = Item.Endloop
control_item ControlOp.Halt = Item.Plain 1
control_item ControlOp.Barrier = Item.Plain 1
control_item ControlOp.Nop = Item.Plain 1

-- an instruction of a width, by the control operation that it is, if it is one
abbrev pub item_by : Option ControlOp → ℕ → Item
item_by (Some o) width = control_item o
item_by None width = Item.Plain width

abbrev pub item_of : Op → ℕ → Item
item_of op width = item_by (control_in op) width

-- what was read at a place, checked for registers below R: refusals 4 to 6 as they are, then 7
abbrev pub seen : Reading → ℕ → Result Fetched Refusal → Result Item Refusal
seen by at (Ok f) =
    cond (registers_below by.registers f.instr) (Ok (item_of f.instr.op f.words)) (Err (broken Rule.Register at))
seen by at (Err r) = Err r

-- what stands at a place of the code
unfoldable pub item_at : List ℕ → Reading → ℕ → Result Item Refusal
item_at code by at = seen by at (read_at code at)
