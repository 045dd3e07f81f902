-- The promise of the public function allows one answer.
use mathlib.Core.Path.{◌≡◌, sym, ◌∙◌}
use mathlib.Core.Bool.{Bool}
use mathlib.Core.List.{List}
use Prim.Native.Nat.{ℕ}
use Rattle.blocks.specs.declared.item.Reading.{Reading}
use Rattle.lanes.specs.declared.said.Block.{Block}
use Rattle.wave.specs.declared.state.Hot.{Hot}
use Rattle.fits.specs.FitsTest.{fits_test}

pub one_fits : (code : List ℕ) (by : Reading) (n : ℕ) (h : Hot) (xs : List Block) (r q : Bool) → r ≡ fits_test code by n h xs
    → q ≡ fits_test code by n h xs → r ≡ q
one_fits code by n h xs r q e f = e ∙ sym f
