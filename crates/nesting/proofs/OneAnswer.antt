-- The promise of `open_at` allows one answer.
use Prim.Native.Nat.{ℕ}
use mathlib.Core.Path.{◌≡◌, sym, ◌∙◌}
use mathlib.Core.List.{List}
use Rattle.blocks.specs.declared.item.Reading.{Reading}
use Rattle.blocks.specs.Code.{code_of}
use Rattle.std.specs.Prelude.{Option}
use Rattle.nesting.specs.declared.places.Stack.{Stack}
use Rattle.nesting.specs.OpenAt.{open_at, shown}

pub one_open_at : (words : List ℕ) (by : Reading) (place : ℕ) (r q : Option Stack) → r ≡ shown (open_at (code_of words by) place)
    → q ≡ shown (open_at (code_of words by) place) → r ≡ q
one_open_at words by place r q e f = e ∙ sym f
