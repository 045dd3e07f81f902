-- An instruction that is read has a word, and all its words are in the code: so the pass over the code moves on, and ends.
use Rattle.refusals.specs.declared.Refusal.{Refusal}
use Rattle.words.specs.declared.reading.Fetched.{Fetched}
use Rattle.std.specs.Prelude.{Option, Some, None, Result, Ok, Err}
use Prim.Native.Nat.{ℕ, ◌+◌, ◌≤◌, ◌<◌}
use native.Mathlib.Omega.{arith}
use mathlib.Core.Path.{◌≡◌, refl, ap, ◌∙◌}
use mathlib.Core.Bool.{Bool, true, false, cond}
use mathlib.Core.List.{List}
use lib.ListN.{length, take, drop, length-take, length-drop}
use Rattle.std.specs.Prelude.{Result, Ok, Err}
use Rattle.refusals.specs.declared.Refusal.{Refusal}
use Rattle.refusals.specs.declared.Rule.{Rule}
use Rattle.refusals.specs.Table.{broken}
use Rattle.instructions.specs.declared.instr.ControlOp.{ControlOp}
use Rattle.instructions.specs.declared.instr.Instr.{Instr}
use Rattle.instructions.specs.Forms.{limits_of, size_of}
use Rattle.fetching.specs.Fetching.{control_in}
use Rattle.words.specs.Layout.{words_of, counted}
use Rattle.words.specs.Reading.{read_at}
use Rattle.instructions.specs.Registers.{registers_below}
use Rattle.words.proofs.Sizes.{words_length, size_positive}
use Rattle.words.proofs.Standing.{stood}
use Rattle.blocks.specs.declared.item.Item.{Item}
use Rattle.blocks.specs.declared.item.Reading.{Reading}
use Rattle.blocks.specs.Item.{item_by, item_of, seen, item_at}
use Rattle.blocks.specs.Code.{Code, code_of}

-- an item at a place of code of a size
abbrev pub InCode : ℕ → ℕ → Item → Type 0
InCode at size (Item.Plain w) = (1 ≤ w) × (at + w ≤ size)
InCode at size Item.If = Unit {0}
InCode at size Item.Else = Unit {0}
InCode at size Item.Endif = Unit {0}
InCode at size Item.Loop = Unit {0}
InCode at size Item.Jump = Unit {0}
InCode at size Item.Endloop = Unit {0}

-- what the blocks see at a place, where it is no refusal, is in the code
abbrev pub SeenInCode : ℕ → ℕ → Result Item Refusal → Type 0
SeenInCode at size (Ok i) = InCode at size i
SeenInCode at size (Err r) = Unit {0}

abbrev pub Fits : Code → Type 0
Fits code = (at : ℕ) → at < code.size → SeenInCode at code.size (code.item at)

-- what is read is as wide as its operation, and in the code
pub read_wide : (words : List ℕ) (at : ℕ) (i : Instr) (n : ℕ) → read_at words at ≡ Ok (counted i n)
    → (n ≡ size_of (limits_of i.op).second) × (at + n ≤ length words)
read_wide words at i n e =
    let s = stood words at i n e in
    let same : n ≡ size_of (limits_of i.op).second = s.1 ∙ words_length i in
    let there : length (take (length (words_of i)) (drop at words)) ≡ length (words_of i) = ap length s.0.1 in
    let some : 1 ≤ size_of (limits_of i.op).second = size_positive (limits_of i.op).second in
    (same, omega (arith, simp (length-take, length-drop) at there, s.1))

-- what the blocks see of an instruction is in the code
item_ok : (at size n : ℕ) (c : Option ControlOp) → 1 ≤ n → at + n ≤ size → InCode at size (item_by c n)
item_ok at size n None e h = (e, h)
item_ok at size n (Some ControlOp.If) e h = tt
item_ok at size n (Some ControlOp.Else) e h = tt
item_ok at size n (Some ControlOp.Endif) e h = tt
item_ok at size n (Some ControlOp.Loop) e h = tt
item_ok at size n (Some ControlOp.Break) e h = tt
item_ok at size n (Some ControlOp.Continue) e h = tt
item_ok at size n (Some ControlOp.Endloop) e h = tt
item_ok at size n (Some ControlOp.Halt) e h = omega arith
item_ok at size n (Some ControlOp.Barrier) e h = omega arith
item_ok at size n (Some ControlOp.Nop) e h = omega arith

cond_ok : (at size : ℕ) (b : Bool) (x y : Result Item Refusal) → SeenInCode at size x → SeenInCode at size y → SeenInCode at size (cond b x y)
cond_ok at size true x y p q = p
cond_ok at size false x y p q = q

seen_ok : (words : List ℕ) (by : Reading) (at : ℕ) (a : Result Fetched Refusal) → read_at words at ≡ a → SeenInCode at (length words) (seen by at a)
seen_ok words by at (Ok f) e =
    let w = read_wide words at f.instr f.words e in
    let some = size_positive (limits_of f.instr.op).second in
    cond_ok at (length words) (registers_below by.registers f.instr) (Ok (item_of f.instr.op f.words)) (Err (broken Rule.Register at))
    (item_ok at (length words) f.words (control_in f.instr.op) (omega (arith, w.0, some)) w.1) tt
seen_ok words by at (Err r) e = tt

pub code_fits : (words : List ℕ) (by : Reading) → Fits (code_of words by)
unfolding item_at
code_fits words by at h = seen_ok words by at (read_at words at) refl
