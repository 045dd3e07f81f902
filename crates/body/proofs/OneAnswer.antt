-- The promise of each public function allows one answer.
use mathlib.Core.Path.{◌≡◌, sym, ◌∙◌}
use Prim.Native.Nat.{ℕ}
use mathlib.Core.List.{List}
use Rattle.std.specs.Prelude.{get_or, Result}
use Rattle.refusals.specs.declared.Refusal.{Refusal}
use Rattle.lanes.specs.declared.said.Fault.{Fault}
use Rattle.body.specs.Body.{parts_at, no_fault}
use Rattle.body.specs.Layout.{body_answer}

pub body_length_once : (bytes : List ℕ) (at : ℕ) (r q : Result ℕ Refusal) → r ≡ body_answer bytes at → q ≡ body_answer bytes at → r ≡ q
body_length_once bytes at r q a b = a ∙ sym b

-- what a field says, of `kernel`, `place`, `count` and `depth`
pub field_once : (said r q : ℕ) → r ≡ said → q ≡ said → r ≡ q
field_once said r q a b = a ∙ sym b

pub fault_once : (bytes : List ℕ) (k : ℕ) (r q : Fault) → r ≡ get_or (parts_at bytes).faults k no_fault → q ≡ get_or (parts_at bytes).faults k no_fault → r ≡ q
fault_once bytes k r q a b = a ∙ sym b
