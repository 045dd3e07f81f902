-- The key of what a run answered (page 01, "The key"): what its body says, and what writing it answers and leaves.
use Rattle.std.specs.Prelude.{ℕ, cond, List, reverse, leb, length, Result, Ok, Err}
use Rattle.refusals.specs.declared.Refusal.{Refusal}
use Rattle.refusals.specs.declared.Rule.{Rule}
use Rattle.refusals.specs.Table.{broken}
use Rattle.lanes.specs.declared.said.Block.{Block}
use Rattle.numbers.specs.Placed.{placed}
use Rattle.body.specs.Body.{Parts, bytes_of_body}
use Rattle.body.specs.Layout.{fits_layout}
use Rattle.wave.specs.declared.state.State.{State}
use Rattle.wave.specs.Layout.{opened}
use Rattle.faulting.specs.declared.faults.Faults.{Faults}
use Rattle.faulting.specs.Kinds.{listed}
use Rattle.stepping.specs.declared.answers.Outcome.{Outcome}
use Rattle.stepping.specs.declared.answers.Replayed.{Replayed}

-- ---- what the body says

-- the open blocks, outermost first
unfoldable pub blocks_of : State → List Block
blocks_of s = reverse (opened s.blocks s.hot.depth)

-- the kernel number that the caller gives, the place, the fault kinds, the active and the halted lanes, and the open blocks
unfoldable pub parts_of : ℕ → Faults → State → Parts
parts_of kernel f s =
    record {
      kernel = kernel;
      place = s.hot.place;
      faults = listed f;
      active = s.hot.active;
      halted = s.hot.halted;
      blocks = blocks_of s;
    }

-- ---- writing it

-- an answer, and what the lent buffer holds after
pub record Keying : Type 0 where
  pub answer : Result ℕ Refusal
  pub out : List ℕ

abbrev pub keyed : Result ℕ Refusal → List ℕ → Keying
keyed r out = record { answer = r; out = out }

-- the body of these parts: 14 where it isn't of the layout, a depth over 32 among them; then 13 where it doesn't fit
unfoldable pub body_key : Parts → List ℕ → Keying
body_key p out =
    cond (fits_layout p)
    (cond (leb (length (bytes_of_body p)) (length out))
    (keyed (Ok (length (bytes_of_body p))) (placed out 0 (bytes_of_body p)))
    (keyed (Err (broken Rule.Short 0)) out))
    (keyed (Err (broken Rule.NotOfLayout 0)) out)

-- 14 where the outcome is no fault
unfoldable pub outcome_key : ℕ → Outcome → State → List ℕ → Keying
outcome_key kernel (Outcome.Fault f) s out = body_key (parts_of kernel f s) out
outcome_key kernel Outcome.Ended s out = keyed (Err (broken Rule.NotOfLayout 0)) out
outcome_key kernel Outcome.OutOfBudget s out = keyed (Err (broken Rule.NotOfLayout 0)) out
outcome_key kernel (Outcome.Refused q) s out = keyed (Err (broken Rule.NotOfLayout 0)) out

-- the key of what a run answered
unfoldable pub key_of : ℕ → Replayed → List ℕ → Keying
key_of kernel r out = outcome_key kernel r.outcome r.state out
