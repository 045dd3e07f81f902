-- Writing a capture file into a lent buffer.
use Rattle.std.specs.Prelude.{ℕ, cond, List, leb, length, Result, Ok, Err}
use Rattle.numbers.specs.Placed.{placed}
use Rattle.refusals.specs.declared.Rule.{Rule}
use Rattle.refusals.specs.Table.{broken}
use Rattle.refusals.specs.declared.Refusal.{Refusal}
use Rattle.captures.specs.Capture.{Capture, capture_of, fits}

-- an answer, and what the lent buffer holds after
pub record Writing : Type 0 where
  pub answer : Result ℕ Refusal
  pub file : List ℕ

abbrev pub wrote : Result ℕ Refusal → List ℕ → Writing
wrote r file = record { answer = r; file = file }

-- 14 where no file has these parts, then 13 where it doesn't fit; else the file stands at the buffer's front
unfoldable pub write_of : Capture → List ℕ → Writing
write_of c out =
    cond (fits c.parts)
    (cond (leb (length (capture_of c)) (length out)) (wrote (Ok (length (capture_of c))) (placed out 0 (capture_of c))) (wrote (Err (broken Rule.Short 0)) out))
    (wrote (Err (broken Rule.NotOfLayout 0)) out)
