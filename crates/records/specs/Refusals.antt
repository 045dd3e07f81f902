-- When reading a day file is refused: page 01's table of refusals, 13 to 16, each with its number, its place and the rule that is broken. A
-- line asks that the rules tested before it are kept.
use Rattle.std.specs.Prelude.{ℕ, ◌≤◌, ◌<◌, ◌≡◌, ◌⊎◌, List, length}
use Rattle.refusals.specs.declared.Refusal.{Refusal}
use Rattle.refusals.specs.declared.Rule.{Rule}
use Rattle.refusals.specs.Table.{broken}
use Rattle.dayfile.specs.Day.{most_records, Layout, count_of, count_bytes, file_of, Listed}

-- a file that some list gives
pub record Given (L : Layout) (f : List ℕ) : Type 0 where
  pub bodies : List (List ℕ)
  pub listed : Listed L bodies
  pub file : file_of bodies ≡ f

-- a file: 14 with no count, 15 with a count over 1,024, then 14 if no list gives it
pub data FileBreaks (L : Layout) (f : List ℕ) : Refusal → Type 0 where
  no_count : length f < count_bytes → FileBreaks L f (broken Rule.NotOfLayout 0)
  count_over : count_bytes ≤ length f → most_records < count_of f → FileBreaks L f (broken Rule.TooMany 0)
  not_given : count_bytes ≤ length f → count_of f ≤ most_records → (Given L f → ⊥) → FileBreaks L f (broken Rule.NotOfLayout 0)

-- reading record i: then 16
pub data ReadBreaks (L : Layout) (f : List ℕ) (i : ℕ) : Refusal → Type 0 where
  in_file : {x : Refusal} → FileBreaks L f x → ReadBreaks L f i x
  no_such : Given L f → (i ≡ 0) ⊎ (count_of f < i) → ReadBreaks L f i (broken Rule.NoRecord 0)

-- the first equal record of each: then 13
pub data FirstsBreak (L : Layout) (f out : List ℕ) : Refusal → Type 0 where
  in_the_file : {x : Refusal} → FileBreaks L f x → FirstsBreak L f out x
  no_room_for : Given L f → length out < count_of f → FirstsBreak L f out (broken Rule.Short 0)
