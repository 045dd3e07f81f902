-- Where checked code lets a control instruction stand, by the blocks that are open there; and what a block that closes makes active.
use Rattle.std.specs.Prelude.{◌≡◌, ℕ, ◌<◌, Bool, true, false, cond, List, [], ◌∷◌, length}
use Rattle.lanes.specs.Blocks.{nesting, before_else}
use Rattle.instructions.specs.declared.instr.ControlOp.{ControlOp}
use Rattle.instructions.specs.declared.instr.ControlOp.TheVariants.{If, Else, Endif, Loop, Break, Continue, Endloop, Halt, Barrier, Nop}
use Rattle.lanes.specs.Sets.{without}
use Rattle.lanes.specs.declared.said.Block.{Block}
use Rattle.wave.specs.Layout.{is_loop}

-- the innermost block is an IF before its ELSE
abbrev pub TopHalf : List Block → Type 0
TopHalf [] = ⊥
TopHalf (b ∷ bs) = b.part ≡ before_else

-- the innermost block is a loop, or is none
abbrev pub TopLoop : Bool → List Block → Type 0
TopLoop l [] = ⊥
TopLoop l (b ∷ bs) = is_loop b ≡ l

-- some loop is open
abbrev pub SomeLoop : List Block → Type 0
SomeLoop [] = ⊥
SomeLoop (b ∷ bs) = cond (is_loop b) Unit (SomeLoop bs)

-- there is room for IF and LOOP; ELSE, ENDIF, ENDLOOP stand directly in their block; BREAK, CONTINUE inside some loop
unfoldable pub Ready : ControlOp → List Block → Type 0
Ready If p = length p < nesting
Ready Else p = TopHalf p
Ready Endif p = TopLoop false p
Ready Loop p = length p < nesting
Ready Break p = SomeLoop p
Ready Continue p = SomeLoop p
Ready Endloop p = TopLoop true p
Ready Halt p = Unit
Ready Barrier p = Unit
Ready Nop p = Unit

-- the lanes a are those that entered the innermost block, less those that left it
abbrev pub HandsBack : ℕ → List Block → Type 0
HandsBack a [] = ⊥
HandsBack a (b ∷ bs) = a ≡ without b.entered b.left
