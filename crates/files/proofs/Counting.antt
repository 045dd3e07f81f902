-- What was read, as a caller has it once the answer is told apart.
use mathlib.Core.Path.{◌≡◌}
use mathlib.Core.List.{List}
use Prim.Native.Nat.{ℕ, ◌≤◌}
use lib.ListN.{length}
use Rattle.std.specs.Prelude.{Option, Some}
use Rattle.files.specs.Within.{Within}

pub read_within : (r : Option ℕ) (n : ℕ) (room : List ℕ) → r ≡ Some n → Within r room → n ≤ length room
read_within r n room e h = rw e at h
