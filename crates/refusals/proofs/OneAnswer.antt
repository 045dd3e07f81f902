-- Each promise of the crate allows one answer.
use mathlib.Core.Path.{◌≡◌, sym, ◌∙◌}
use Prim.Native.Nat.{ℕ}
use Rattle.refusals.specs.declared.Refusal.{Refusal}
use Rattle.refusals.specs.declared.Rule.{Rule}
use Rattle.refusals.specs.Table.{number_of, broken}

pub number_once : (rule : Rule) (r q : ℕ) → r ≡ number_of rule → q ≡ number_of rule → r ≡ q
number_once rule r q a b = a ∙ sym b

pub broken_once : (rule : Rule) (place : ℕ) (r q : Refusal) → r ≡ broken rule place → q ≡ broken rule place → r ≡ q
broken_once rule place r q a b = a ∙ sym b
