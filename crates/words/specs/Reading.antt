-- Reading one instruction: it tests 5 for no word at all, then 4, 5, 6, each at the instruction's first word.
use Rattle.refusals.specs.declared.Refusal.{Refusal}
use Rattle.words.specs.declared.reading.Fetched.{Fetched}
use Rattle.std.specs.Prelude.{cond, ◌&&◌, List, [], ◌∷◌, ℕ, suc, ltb, length, get_or, drop, Option, Some, None, Result, Ok, Err}
use Rattle.instructions.specs.declared.instr.Op.{Op}
use Rattle.instructions.specs.declared.forms.Limits.{Limits}
use Rattle.opcodes.specs.Table.{op_of}
use Rattle.instructions.specs.Forms.{limits_of, size_of, size, fits}
use Rattle.words.specs.Layout.{instr_in, spare_zero, opcode_in, modifier_in, counted}
use Rattle.refusals.specs.declared.Rule.{Rule}
use Rattle.refusals.specs.Table.{broken}

-- a rule is broken by the instruction at a place
abbrev pub refused : Rule → ℕ → Result Fetched Refusal
refused rule at = Err (broken rule at)

-- the words w and v of an operation with these limits; v counts only where the operation has a second word
abbrev pub read_fields : Op → Limits → ℕ → ℕ → ℕ → Result Fetched Refusal
read_fields o l w v at =
    cond (spare_zero l.second w v && fits l (instr_in l.second o w v)) (Ok (counted (instr_in l.second o w v) (size_of l.second)))
    (refused Rule.Field at)

-- the word w and those after it, once its operation has been looked up
abbrev pub read_op : Option Op → ℕ → List ℕ → ℕ → Result Fetched Refusal
read_op None w ws at = refused Rule.NotCarried at
read_op (Some o) w ws at =
    cond (ltb (suc (length ws)) (size o)) (refused Rule.NoSecond at) (read_fields o (limits_of o) w (get_or ws 0 0) at)

-- the instruction that a list of words starts with
abbrev pub read_from : List ℕ → ℕ → Result Fetched Refusal
read_from [] at = refused Rule.NoSecond at
read_from (w ∷ ws) at = read_op (op_of (opcode_in w) (modifier_in w)) w ws at

-- the instruction whose first word stands at a place
abbrev pub read_at : List ℕ → ℕ → Result Fetched Refusal
read_at ws at = read_from (drop at ws) at
