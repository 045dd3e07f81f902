-- Writing the text of an instruction: it tests 12, then 13. Output past the text stays as lent, and a refusal changes nothing.
use Rattle.refusals.specs.declared.Refusal.{Refusal}
use Rattle.std.specs.Prelude.{cond, List, ◌++◌, ℕ, leb, length, drop, Result, Ok, Err}
use Rattle.refusals.specs.declared.Rule.{Rule}
use Rattle.refusals.specs.Table.{broken}
use Rattle.instructions.specs.declared.instr.Instr.{Instr}
use Rattle.instructions.specs.Forms.{valid}
use Rattle.texts.specs.Text.{text_of}

-- an answer, and what the output holds then
pub record Written : Type 0 where
  pub answer : Result ℕ Refusal
  pub after : List ℕ

-- the two together
abbrev pub written : Result ℕ Refusal → List ℕ → Written
written answer after = record { answer = answer; after = after }

-- a rule is broken
abbrev pub unwritten : Rule → List ℕ → Written
unwritten rule out = written (Err (broken rule 0)) out

-- a text put at the start of an output that has room for it
abbrev pub put_in : List ℕ → List ℕ → Written
put_in t out =
    cond (leb (length t) (length out)) (written (Ok (length t)) (t ++ drop (length t) out)) (unwritten Rule.Short out)

-- an instruction's text, if words give the instruction
abbrev pub text_in : Instr → List ℕ → Written
text_in i out = cond (valid i) (put_in (text_of i) out) (unwritten Rule.NoWords out)
