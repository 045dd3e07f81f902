-- A step of the proofs: nothing that is said to the reader rests on this file.
-- The rule of one instruction at a place, by what `judge` is told of the open blocks: the room left, what the innermost is, and whether a loop is among them.
use Rattle.std.specs.Prelude.{ℕ, Bool, true, cond, eqb, Option, Some, None, Result, Ok, Err}
use Rattle.refusals.specs.declared.Refusal.{Refusal}
use Rattle.refusals.specs.declared.Rule.{Rule}
use Rattle.refusals.specs.Table.{broken}
use Rattle.blocks.specs.declared.item.Item.{Item}
use Rattle.blocks.specs.declared.rules.Part.{Part}
use Rattle.blocks.specs.declared.rules.Turn.{Turn}
use Rattle.blocks.specs.declared.rules.Turn.TheVariants.{Go, Close, Enter}

-- what an instruction means for its level, or the refusal of the rule that it breaks
abbrev pub Judged : Type 0
Judged = Result Turn Refusal

abbrev pub opening : ℕ → ℕ → Part → Bool → Judged
opening at room part in-a-loop = cond (eqb room 0) (Err (broken Rule.Depth at)) (Ok (Enter part in-a-loop))

-- stray: the refusal of a stray instruction
abbrev pub at_else : Refusal → Option Part → Judged
at_else stray None = Err stray
at_else stray (Some Part.Before) = Ok (Go 1 (Some Part.After))
at_else stray (Some Part.After) = Err stray
at_else stray (Some Part.Loop) = Err stray

abbrev pub at_endif : Refusal → Option Part → Judged
at_endif stray None = Err stray
at_endif stray (Some Part.Before) = Ok Close
at_endif stray (Some Part.After) = Ok Close
at_endif stray (Some Part.Loop) = Err stray

abbrev pub at_endloop : Refusal → Option Part → Judged
at_endloop stray None = Err stray
at_endloop stray (Some Part.Before) = Err stray
at_endloop stray (Some Part.After) = Err stray
at_endloop stray (Some Part.Loop) = Ok Close

-- what an instruction means
abbrev pub turn_of : Item → ℕ → ℕ → Option Part → Bool → Judged
turn_of (Item.Plain width) at room inside in-a-loop = Ok (Go width inside)
turn_of Item.If at room inside in-a-loop = opening at room Part.Before in-a-loop
turn_of Item.Else at room inside in-a-loop = at_else (broken Rule.Stray at) inside
turn_of Item.Endif at room inside in-a-loop = at_endif (broken Rule.Stray at) inside
turn_of Item.Loop at room inside in-a-loop = opening at room Part.Loop true
turn_of Item.Jump at room inside in-a-loop = cond in-a-loop (Ok (Go 1 inside)) (Err (broken Rule.Stray at))
turn_of Item.Endloop at room inside in-a-loop = at_endloop (broken Rule.Stray at) inside

-- what stands at a place, or its refusal
abbrev pub judged : Result Item Refusal → ℕ → ℕ → Option Part → Bool → Judged
judged (Ok item) at room inside in-a-loop = turn_of item at room inside in-a-loop
judged (Err r) at room inside in-a-loop = Err r
