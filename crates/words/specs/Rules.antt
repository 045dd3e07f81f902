-- Reading said of the words alone: when an instruction stands at a place, what the fields of an operation's words may have, and which rule is
-- the first that is broken there. Page 01's table of refusals, 4 to 6, with no test.
use Rattle.std.specs.Prelude.{◌≡◌, true, List, ℕ, ◌≤◌, ◌<◌, ◌+◌, length, get_or, take, drop}
use Rattle.refusals.specs.declared.Refusal.{Refusal}
use Rattle.refusals.specs.declared.Rule.{Rule}
use Rattle.refusals.specs.Table.{broken}
use Rattle.instructions.specs.declared.instr.Op.{Op}
use Rattle.instructions.specs.declared.instr.Instr.{Instr}
use Rattle.instructions.specs.declared.forms.Need.{Need}
use Rattle.instructions.specs.declared.forms.Second.{Second}
use Rattle.instructions.specs.declared.forms.Limits.{Limits}
use Rattle.opcodes.specs.Table.{opcode_of, modifier_of}
use Rattle.instructions.specs.Forms.{limits_of, size, valid}
use Rattle.words.specs.Layout.{words_of, opcode_in, modifier_in, rd_in, rs1_in, bit3_in, negate_in, pred_in, rs2_in, rs3_in, rs4_in, spare_in, scope_in}

-- a valid instruction's words stand at a place
abbrev pub Stands : List ℕ → ℕ → Instr → Type 0
Stands ws at i = (valid i ≡ true) × (take (length (words_of i)) (drop at ws) ≡ words_of i)

-- the word at a place has the operation's opcode and modifier
abbrev pub Names : List ℕ → ℕ → Op → Type 0
Names ws at o = (opcode_in (get_or ws at 0) ≡ opcode_of o) × (modifier_in (get_or ws at 0) ≡ modifier_of o)

-- IF needs predicate 1 to 3; ELSE, ENDIF, LOOP, ENDLOOP, BARRIER and NOP need predicate 0
abbrev pub Needed : Need → ℕ → Type 0
Needed Need.Any p = Unit {0}
Needed Need.NotZero p = p ≡ 0 → ⊥
Needed Need.Zero p = p ≡ 0

-- the fields of a register-form word 1; RS4, which no operation uses, and 7:2 are zero
abbrev pub SecondAllowed : Second → ℕ → Type 0
SecondAllowed Second.Nothing v = Unit {0}
SecondAllowed Second.Number v = Unit {0}
SecondAllowed (Second.Registers rs2 rs3 scope) v =
    (rs2_in v ≤ rs2) × (rs3_in v ≤ rs3) × (rs4_in v ≡ 0) × (spare_in v ≡ 0) × (scope_in v ≤ scope)

-- what the words w and v of an operation may have in their fields; a limit is 0 for a field that the operation doesn't use
pub record Allowed (l : Limits) (w v : ℕ) : Type 0 where
  pub bit3 : bit3_in w ≡ 0
  -- predicate 0 with negate 1 isn't allowed
  pub form : pred_in w ≡ 0 → negate_in w ≡ 1 → ⊥
  pub predicate : Needed l.need (pred_in w)
  -- RD, which for a comparison is 1 to 3
  pub rd : (l.least ≤ rd_in w) × (rd_in w ≤ l.rd)
  -- RS1, which for MOV_SPECIAL is the special number, at most 2
  pub rs1 : rs1_in w ≤ l.rs1
  pub second : SecondAllowed l.second v

-- the first rule that the words at a place break, there
pub data Breaks (ws : List ℕ) (at : ℕ) : Refusal → Type 0 where
  -- a word that names no operation
  no_operation : at < length ws → ((o : Op) → Names ws at o → ⊥) → Breaks ws at (broken Rule.NotCarried at)
  -- no word at all
  no_word : length ws ≤ at → Breaks ws at (broken Rule.NoSecond at)
  -- the word names an operation that has more words than there are
  few_words : (o : Op) → at < length ws → Names ws at o → length ws < at + size o → Breaks ws at (broken Rule.NoSecond at)
  -- the words of an operation are there, and not all is allowed that their fields have
  wrong_field : (o : Op) → Names ws at o → at + size o ≤ length ws → (Allowed (limits_of o) (get_or ws at 0) (get_or ws (at + 1) 0) → ⊥)
      → Breaks ws at (broken Rule.Field at)
