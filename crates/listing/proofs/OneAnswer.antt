-- The promise of `list` allows one answer, and one later content of the buffer that was lent.
use mathlib.Core.Path.{◌≡◌, sym, ◌∙◌}
use Prim.Native.Nat.{ℕ}
use mathlib.Core.List.{List}
use Rattle.numbers.specs.Placed.{Puts}
use Rattle.listing.specs.Text.{text_of}

pub list_once : (file out x y : List ℕ) (r q : ℕ) → Puts out 0 (text_of file) r x → Puts out 0 (text_of file) q y → (r ≡ q) × (x ≡ y)
list_once file out x y r q a b = (a.place ∙ sym b.place, a.holds ∙ sym b.holds)
