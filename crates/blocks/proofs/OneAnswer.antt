-- The promises of `look`, `judge` and `check` each allow one answer.
use Prim.Native.Nat.{ℕ}
use mathlib.Core.Path.{◌≡◌, sym, ◌∙◌}
use mathlib.Core.Bool.{Bool}
use mathlib.Core.List.{List}
use Rattle.std.specs.Prelude.{Option, Result}
use Rattle.refusals.specs.declared.Refusal.{Refusal}
use Rattle.blocks.specs.declared.item.Item.{Item}
use Rattle.blocks.specs.declared.item.Reading.{Reading}
use Rattle.blocks.specs.declared.rules.Part.{Part}
use Rattle.blocks.specs.Item.{item_at}
use Rattle.blocks.specs.Code.{code_of}
use Rattle.blocks.specs.Scan.{Checked, check_of}
use Rattle.blocks.specs.Open.{part_number}
use Rattle.blocks.specs.Rules.{Judged, judged}

pub one_judge : (seen : Result Item Refusal) (at room : ℕ) (inside : Option Part) (in-a-loop : Bool) (r q : Judged)
    → r ≡ judged seen at room inside in-a-loop → q ≡ judged seen at room inside in-a-loop → r ≡ q
one_judge seen at room inside in-a-loop r q e f = e ∙ sym f

module _ (words : List ℕ) (by : Reading) where
  pub one_look : (at : ℕ) (r q : Result Item Refusal) → r ≡ item_at words by at → q ≡ item_at words by at → r ≡ q
  one_look at r q e f = e ∙ sym f

  pub one_check : (r q : Checked) → r ≡ check_of (code_of words by) → q ≡ check_of (code_of words by) → r ≡ q
  one_check r q e f = e ∙ sym f

pub one_part : (part : Part) (r q : ℕ) → r ≡ part_number part → q ≡ part_number part → r ≡ q
one_part part r q e f = e ∙ sym f
