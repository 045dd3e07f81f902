-- The marked table, T1 to T14: one list of cases, and what the pages say of each.
use Rattle.refusals.specs.declared.Refusal.{Refusal}
use Rattle.words.specs.declared.reading.Fetched.{Fetched}
use Rattle.std.specs.Prelude.{◌≡◌, Bool, true, false, List, [], ◌∷◌, ℕ, suc, ◌*◌, ◌≤◌, length, get_or, take, Result, Ok, Err}
use Rattle.instructions.specs.declared.instr.TwoOp.{TwoOp}
use Rattle.instructions.specs.declared.instr.ControlOp.{ControlOp}
use Rattle.instructions.specs.declared.instr.Op.{Op}
use Rattle.refusals.specs.declared.Rule.{Rule}
use Rattle.refusals.specs.Table.{broken}
use Rattle.words.specs.Layout.{instr, counted}
use Rattle.words.specs.Reading.{read_at}
use Rattle.arith.specs.Arith.{two_of}
use Rattle.ground.specs.Lists.{tabulate}
use Rattle.compute.specs.Registers.{slot}
use Rattle.stepping.specs.declared.settings.Settings.{Settings}
use Rattle.stepping.specs.declared.answers.Outcome.{Outcome}
use Rattle.stepping.specs.Answer.{Answered}
use Rattle.replay.specs.Replay.{most_steps, launch_of}
use Rattle.numbers.specs.Numbers.{bytes_of_all}
use Rattle.body.specs.Layout.{longest}
use Rattle.key.specs.Key.{Keying, key_of}

-- words to be read; an operation on two numbers; a launch of so many lanes of a width, with so many registers
pub data Case : Type 0 where
  reading : List ℕ → Case
  operation : TwoOp → ℕ → ℕ → Case
  launching : ℕ → ℕ → ℕ → List ℕ → Case

-- of a run that ends: its steps, register 1 of the launched lanes, the halted lanes; of one that faults: its steps, and kernel 7's key
pub data Answer : Type 0 where
  read : Result Fetched Refusal → Answer
  value : ℕ → Answer
  ended : ℕ → List ℕ → ℕ → Answer
  faulted : ℕ → List ℕ → Answer
  stopped : Answer

-- the least budget of a launch that comes to its answer: the steps, and one more for an instruction that faults
abbrev pub least : Answer → ℕ
least (ended steps r1 halted) = steps
least (faulted steps key) = suc steps
least (read r) = 0
least (value v) = 0
least stopped = 0

-- what the page leaves open of a launch: the registers, W×R of them, the memories, the budget, and the room that the key is written to
pub record Open (W R steps : ℕ) : Type 0 where
  pub regs : List ℕ
  pub device : List ℕ
  pub local : List ℕ
  pub budget : ℕ
  pub room : List ℕ
  pub whole : length regs ≡ W * R
  pub enough : steps ≤ budget
  pub allowed : budget ≤ most_steps
  pub roomy : longest ≤ length room

abbrev pub settings : ℕ → ℕ → ℕ → ℕ → Settings
settings width lanes registers budget = record { width = width; registers = registers; lanes = lanes; budget = budget }

-- the key that was written: so many bytes of the room
abbrev pub bytes_in : Result ℕ Refusal → List ℕ → List ℕ
bytes_in (Ok n) out = take n out
bytes_in (Err x) out = []

abbrev pub written : Keying → List ℕ
written k = bytes_in k.answer k.out

abbrev pub ran : Outcome → ℕ → ℕ → ℕ → List ℕ → Answered → Answer
ran Outcome.Ended W n R room a = ended a.steps (tabulate n (λ i. get_or a.regs (slot W R i 1) 0)) a.state.hot.halted
ran (Outcome.Fault f) W n R room a =
    faulted a.steps (written (key_of 7 (record { outcome = a.outcome; steps = a.steps; state = a.state }) room))
ran Outcome.OutOfBudget W n R room a = stopped
ran (Outcome.Refused r) W n R room a = stopped

abbrev pub launched : ℕ → ℕ → ℕ → List ℕ → Answered → Answer
launched W n R room a = ran a.outcome W n R room a

-- the definitions give what the page says of a case; for a launch, whatever the page leaves open
abbrev pub Gives : Case → Answer → Type 0
Gives (reading words) said = read (read_at words 0) ≡ said
Gives (operation op a b) said = value (two_of op a b) ≡ said
Gives (launching W n R words) said =
    (o : Open W R (least said)) → launched W n R o.room (launch_of (settings W n R o.budget) words o.regs o.device o.local) ≡ said

-- a case, and what the page says of it
pub record Entry : Type 0 where
  pub given : Case
  pub said : Answer

abbrev entry : Case → Answer → Entry
entry c a = record { given = c; said = a }

-- the definitions give it of every entry
infixr 60 ◌&◌
pub data Each : List Entry → Type 0 where
  all : Each []
  ◌&◌ : {e : Entry} {es : List Entry} → Gives e.given e.said → Each es → Each (e ∷ es)

abbrev one : Op → ℕ → Bool → ℕ → ℕ → ℕ → ℕ → ℕ → Answer
one op pred negate rd rs1 rs2 number words =
    read (Ok (counted (instr op (record { pred = pred; negate = negate }) rd rs1 rs2 0 0 number) words))

abbrev refusal : Rule → Answer
refusal rule = read (Err (broken rule 0))

-- the words of a load from T11's address, and those of T12, T13 and T14
abbrev pub t11 : List ℕ
t11 = 0xF1000000 ∷ 0xFFFFFFFC ∷ 0x30010000 ∷ 0x00000008 ∷ []

abbrev pub t12 : List ℕ
t12 =
    0xF2000000 ∷ 0xF1010000 ∷ 0x00000002 ∷ 0x2A010000 ∷ 0x01000000 ∷ 0x3F000001 ∷ 0xF1010000 ∷ 0x00000007 ∷ 0x3F000010 ∷ 0x3F000090 ∷ 0x3F000020
    ∷ 0x00010100 ∷ 0x00000000 ∷ []

abbrev pub t13 : List ℕ
t13 = 0xF2000000 ∷ 0x03010000 ∷ 0x00000000 ∷ []

abbrev pub t14 : List ℕ
t14 =
    0xF2000000 ∷ 0xF1010000 ∷ 0x00000001 ∷ 0x28010000 ∷ 0x01000000 ∷ 0x3F000030 ∷ 0x3F000041 ∷ 0x03010100 ∷ 0x00000000 ∷ 0x3F000060 ∷ []

abbrev pub table : List Entry
table =
    -- T1 to T6
    entry (reading (0x00030100 ∷ 0x02000000 ∷ [])) (one (Op.Two TwoOp.Add) 0 false 3 1 2 0 2)
    ∷ entry (reading (0xF1000000 ∷ 0x00000005 ∷ [])) (one Op.Number 0 false 0 0 0 5 2)
    ∷ entry (reading (0x3F000005 ∷ [])) (one (Op.Control ControlOp.If) 1 true 0 0 0 0 1)
    ∷ entry (reading (0x3F000004 ∷ [])) (refusal Rule.Field)
    ∷ entry (reading (0x3F000041 ∷ [])) (one (Op.Control ControlOp.Break) 1 false 0 0 0 0 1)
    ∷ entry (reading (0x3F000070 ∷ [])) (refusal Rule.NotCarried)
    -- T7 to T11; T10 and T11 by page 02, which makes MULHI signed and a sum that reaches 2^32 a fault
    ∷ entry (operation TwoOp.Div 0xFFFFFFF9 2) (value 0xFFFFFFFD)
    ∷ entry (operation TwoOp.Rem 0xFFFFFFF9 2) (value 0xFFFFFFFF)
    ∷ entry (operation TwoOp.Div 0x80000000 0xFFFFFFFF) (value 0x80000000)
    ∷ entry (operation TwoOp.Rem 0x80000000 0xFFFFFFFF) (value 0)
    ∷ entry (operation TwoOp.Sar 0x80000000 33) (value 0xC0000000)
    ∷ entry (operation TwoOp.Mulhi 0xFFFFFFFF 0xFFFFFFFF) (value 0)
    ∷ entry (launching 8 2 2 t11) (faulted 1 (bytes_of_all (7 ∷ 2 ∷ 1 ∷ 6 ∷ 3 ∷ 3 ∷ 0 ∷ 0 ∷ [])))
    -- T12 to T14
    ∷ entry (launching 8 4 2 t12) (ended 9 (7 ∷ 8 ∷ 2 ∷ 2 ∷ []) 12)
    ∷ entry (launching 8 2 2 t13) (faulted 1 (bytes_of_all (7 ∷ 1 ∷ 1 ∷ 4 ∷ 1 ∷ 3 ∷ 0 ∷ 0 ∷ [])))
    ∷ entry (launching 8 3 2 t14) (faulted 5 (bytes_of_all (7 ∷ 7 ∷ 1 ∷ 4 ∷ 1 ∷ 5 ∷ 0 ∷ 1 ∷ 3 ∷ 5 ∷ 7 ∷ 2 ∷ 0 ∷ 0 ∷ [])))
    ∷ []
