-- A step of the proofs: nothing that is said to the reader rests on this file.
-- Steps of writing a body: its pieces put one behind another, and a body copied from the front of bytes.
use Rattle.std.specs.Prelude.{ℕ, ◌+◌, ◌≤◌, ◌≡◌, true, cond, leb, length, take, Ok, Err}
use mathlib.Core.List.{List, ◌++◌, flat_map}
use Rattle.refusals.specs.declared.Rule.{Rule}
use Rattle.refusals.specs.Table.{broken}
use Rattle.numbers.specs.Placed.{placed}
use Rattle.ground.specs.Tests.{all_of}
use Rattle.formats.specs.Format.{Format}
use Rattle.body.specs.Body.{set_bytes, size_at}
use Rattle.body.specs.Layout.{length_of, starts_body}
use Rattle.lanes.specs.Blocks.{nesting}
use Rattle.faulting.specs.Kinds.{kinds}
use Rattle.key.specs.Key.{Keying, keyed}

-- the bytes of every fault kind and 32 blocks: more than any body of the layout has
abbrev pub room : ℕ
room = length_of set_bytes kinds nesting

-- bytes were put behind `old`, if there is room for them
abbrev pub Behind : List ℕ → List ℕ → List ℕ → Type 0
Behind bytes old now = length old + length bytes ≤ room → now ≡ old ++ bytes

-- things for which a format has room were put there: one, and one behind another
pub record Put {A : Type 0} (F : Format A) (a : A) (old now : List ℕ) : Type 0 where
  pub fits : F.fits a ≡ true
  pub stands : Behind (F.write a) old now

pub record PutAll {A : Type 0} (F : Format A) (xs : List A) (old now : List ℕ) : Type 0 where
  pub fits : all_of F.fits xs ≡ true
  pub stands : Behind (flat_map F.write xs) old now

-- the body that bytes start with, copied where it fits
unfoldable pub copied : List ℕ → List ℕ → Keying
copied s out =
    cond (starts_body s)
    (cond (leb (size_at s) (length out)) (keyed (Ok (size_at s)) (placed out 0 (take (size_at s) s))) (keyed (Err (broken Rule.Short 0)) out))
    (keyed (Err (broken Rule.NotOfLayout 0)) out)
