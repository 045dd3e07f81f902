-- What reading tells of record i of the file of a list of bodies, counted from 1. Page 01, "The day file".
use Rattle.std.specs.Prelude.{ℕ, ◌+◌, ◌-◌, ◌≤◌, ◌<◌, ◌≡◌, length, get_or, take, drop}
use mathlib.Core.List.{List, [], flatten}
use Rattle.dayfile.specs.Day.{table_end, file_of}

-- body i of a list, counted from 1
abbrev pub body : List (List ℕ) → ℕ → List ℕ
body bs i = get_or bs (i - 1) []

pub record Told (bs : List (List ℕ)) (i place long first : ℕ) : Type 0 where
  -- it stands behind the table of contents and the bodies before it, and these bytes of the file are the body
  pub place_is : place ≡ table_end (length bs) + length (flatten (take (i - 1) bs))
  pub long_is : long ≡ length (body bs i)
  pub bytes : take long (drop place (file_of bs)) ≡ body bs i
  -- the first record has equal bytes, and none before it has
  pub counted : (1 ≤ first) × (first ≤ i)
  pub equal : body bs first ≡ body bs i
  pub none_before : (k : ℕ) → 1 ≤ k → k < first → body bs k ≡ body bs i → ⊥
