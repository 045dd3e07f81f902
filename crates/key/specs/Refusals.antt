-- When writing a key is refused: page 01's table of refusals, 14 and then 13, at place 0.
use Rattle.std.specs.Prelude.{ℕ, ◌<◌, ◌≡◌, true, List, length}
use Rattle.refusals.specs.declared.Rule.{Rule}
use Rattle.refusals.specs.Table.{broken}
use Rattle.refusals.specs.declared.Refusal.{Refusal}
use Rattle.body.specs.Body.{bytes_of_body}
use Rattle.body.specs.Layout.{fits_layout}
use Rattle.faulting.specs.declared.faults.Faults.{Faults}
use Rattle.stepping.specs.declared.answers.Outcome.{Outcome}
use Rattle.stepping.specs.declared.answers.Replayed.{Replayed}
use Rattle.key.specs.Key.{parts_of}

pub data KeyBreaks (kernel : ℕ) (r : Replayed) (out : List ℕ) : Refusal → Type 0 where
  -- the outcome is no fault
  not_faulted : ((f : Faults) → r.outcome ≡ Outcome.Fault f → ⊥) → KeyBreaks kernel r out (broken Rule.NotOfLayout 0)
  -- or gives no body of the layout
  no_body : (f : Faults) → r.outcome ≡ Outcome.Fault f → (fits_layout (parts_of kernel f r.state) ≡ true → ⊥)
      → KeyBreaks kernel r out (broken Rule.NotOfLayout 0)
  -- or gives one, and the output is shorter
  no_room : (f : Faults) → r.outcome ≡ Outcome.Fault f → fits_layout (parts_of kernel f r.state) ≡ true
      → length out < length (bytes_of_body (parts_of kernel f r.state)) → KeyBreaks kernel r out (broken Rule.Short 0)
