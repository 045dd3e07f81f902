-- Words whose blocks nest, and the rules that other code breaks. Page 01, "Blocks" and its table of refusals, with no pass over the code.
use Rattle.std.specs.Prelude.{ℕ, suc, ◌+◌, ◌<◌, ◌≡◌, Bool, true, false, List, [], ◌∷◌, length, Some}
use Rattle.lanes.specs.Blocks.{nesting}
use Rattle.refusals.specs.declared.Refusal.{Refusal}
use Rattle.refusals.specs.declared.Rule.{Rule}
use Rattle.refusals.specs.Table.{broken}
use Rattle.instructions.specs.declared.instr.Instr.{Instr}
use Rattle.words.specs.Layout.{words_of}
use Rattle.instructions.specs.Registers.{Past}
use Rattle.words.specs.Rules.{Stands, Breaks}
use Rattle.blocks.specs.declared.item.Item.{Item}
use Rattle.blocks.specs.declared.item.Reading.{Reading}
use Rattle.blocks.specs.Item.{item_of}
use Rattle.blocks.specs.declared.rules.Part.{Part}
use Rattle.blocks.specs.Open.{Open, opened_at, in_loop, innermost}

-- an instruction of the code, with R registers, and what it is to the blocks: its words stand at the place, and none of its registers is R or more
abbrev pub Has : List ℕ → Reading → ℕ → Item → Type 0
Has code by at item = ((x : Instr) × Stands code at x × (Past by.registers x → ⊥) × (item_of x.op (length (words_of x)) ≡ item))

-- From one place to another the code has whole blocks, one after the other, and plain instructions between them. A block is opened by IF
-- or LOOP, closed by its own end, and holds whole blocks in turn, with one less of room. An IF has at most one ELSE, directly in it. BREAK
-- and CONTINUE stand where `looped` is true: inside some loop, at any depth of IF.
pub data Whole (code : List ℕ) (by : Reading) : ℕ → Bool → ℕ → ℕ → Type 0 where
  nothing : {room : ℕ} {looped : Bool} {at : ℕ} → Whole code by room looped at at
  plain : {room : ℕ} {looped : Bool} {at to : ℕ} (width : ℕ) → Has code by at (Item.Plain width) → Whole code by room looped (at + width) to
      → Whole code by room looped at to
  jump : {room at to : ℕ} → Has code by at Item.Jump → Whole code by room true (at + 1) to → Whole code by room true at to
  choice : {room : ℕ} {looped : Bool} {at to : ℕ} (end : ℕ) → Has code by at Item.If → Whole code by room looped (at + 1) end → Has code by end Item.Endif
      → Whole code by (suc room) looped (end + 1) to → Whole code by (suc room) looped at to
  choice_of_two : {room : ℕ} {looped : Bool} {at to : ℕ} (other end : ℕ) → Has code by at Item.If → Whole code by room looped (at + 1) other
      → Has code by other Item.Else → Whole code by room looped (other + 1) end → Has code by end Item.Endif
      → Whole code by (suc room) looped (end + 1) to → Whole code by (suc room) looped at to
  loop : {room : ℕ} {looped : Bool} {at to : ℕ} (end : ℕ) → Has code by at Item.Loop → Whole code by room true (at + 1) end → Has code by end Item.Endloop
      → Whole code by (suc room) looped (end + 1) to → Whole code by (suc room) looped at to

-- the code from its first word to its end
abbrev pub Nested : List ℕ → Reading → Type 0
Nested code by = Whole code by nesting false 0 (length code)

-- The blocks open at a place, innermost first, and the room left: between an opener or ELSE and the next, or the place, are whole blocks.
pub data Opened (code : List ℕ) (by : Reading) : ℕ → List Open → ℕ → Type 0 where
  outside : {at : ℕ} → Whole code by nesting false 0 at → Opened code by nesting [] at
  in_first : {room : ℕ} {o : List Open} {at : ℕ} (p : ℕ) → Opened code by (suc room) o p → Has code by p Item.If → Whole code by room (in_loop o) (p + 1) at
      → Opened code by room (opened_at Part.Before p ∷ o) at
  in_second : {room : ℕ} {o : List Open} {at : ℕ} (p other : ℕ) → Opened code by room (opened_at Part.Before p ∷ o) other → Has code by other Item.Else
      → Whole code by room (in_loop o) (other + 1) at → Opened code by room (opened_at Part.After p ∷ o) at
  in_body : {room : ℕ} {o : List Open} {at : ℕ} (p : ℕ) → Opened code by (suc room) o p → Has code by p Item.Loop → Whole code by room true (p + 1) at
      → Opened code by room (opened_at Part.Loop p ∷ o) at

-- The first of the rules 4 to 7 that the words at a place break by themselves, whatever blocks are open: one of reading an instruction; or an
-- instruction stands there, and a register of it is R or more.
pub data Alone (code : List ℕ) (by : Reading) (at : ℕ) : Refusal → Type 0 where
  in_words : {r : Refusal} → Breaks code at r → Alone code by at r
  register_past : (x : Instr) → Stands code at x → Past by.registers x → Alone code by at (broken Rule.Register at)

-- An instruction at a place breaks a rule of blocks, with these open: it is stray, or no room is left.
pub data Misplaced (o : List Open) (at : ℕ) : Item → Refusal → Type 0 where
  stray_else : (innermost o ≡ Some Part.Before → ⊥) → Misplaced o at Item.Else (broken Rule.Stray at)
  stray_endif : (innermost o ≡ Some Part.Before → ⊥) → (innermost o ≡ Some Part.After → ⊥) → Misplaced o at Item.Endif (broken Rule.Stray at)
  stray_endloop : (innermost o ≡ Some Part.Loop → ⊥) → Misplaced o at Item.Endloop (broken Rule.Stray at)
  stray_jump : in_loop o ≡ false → Misplaced o at Item.Jump (broken Rule.Stray at)
  deep_if : length o ≡ nesting → Misplaced o at Item.If (broken Rule.Depth at)
  deep_loop : length o ≡ nesting → Misplaced o at Item.Loop (broken Rule.Depth at)

-- The first rule that the code breaks, with R registers: that of an instruction, with nothing broken before it, which breaks a rule by its
-- words alone, or a rule of blocks; or a block open at the end, at the place of the innermost opener.
pub data Broken (code : List ℕ) (by : Reading) : Refusal → Type 0 where
  at_words : {room at : ℕ} {r : Refusal} {o : List Open} → Opened code by room o at → at < length code → Alone code by at r → Broken code by r
  at_instruction : {room at : ℕ} {r : Refusal} {o : List Open} {item : Item} → Opened code by room o at → Has code by at item → Misplaced o at item r
      → Broken code by r
  at_end : {room p : ℕ} {part : Part} {o : List Open} → Opened code by room (opened_at part p ∷ o) (length code) → Broken code by (broken Rule.Unclosed p)
