-- Writing one instruction: it tests 12, then 13. Output past the result stays as lent, and a refusal changes nothing.
use Rattle.refusals.specs.declared.Refusal.{Refusal}
use Rattle.std.specs.Prelude.{cond, List, ◌++◌, ℕ, leb, length, drop, Result, Ok, Err}
use Rattle.instructions.specs.declared.instr.Instr.{Instr}
use Rattle.instructions.specs.Forms.{valid}
use Rattle.words.specs.Layout.{words_of}
use Rattle.refusals.specs.declared.Rule.{Rule}
use Rattle.refusals.specs.Table.{broken}

-- an answer, and what the output holds then
pub record Written : Type 0 where
  pub answer : Result ℕ Refusal
  pub after : List ℕ

-- the two together
abbrev pub written : Result ℕ Refusal → List ℕ → Written
written answer after = record { answer = answer; after = after }

-- a rule is broken
abbrev pub unwritten : Rule → List ℕ → Written
unwritten rule out = written (Err (broken rule 0)) out

-- words put at the start of an output that has room for them
abbrev pub put : List ℕ → List ℕ → Written
put ws out =
    cond (leb (length ws) (length out)) (written (Ok (length ws)) (ws ++ drop (length ws) out)) (unwritten Rule.Short out)

-- an instruction's words, if it has any
abbrev pub write_of : Instr → List ℕ → Written
write_of i out = cond (valid i) (put (words_of i) out) (unwritten Rule.NoWords out)
