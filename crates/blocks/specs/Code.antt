-- A test: theorems hold it to the page's words, as `Nesting` has them.
-- Code as the rules of blocks see it.
use Rattle.std.specs.Prelude.{ℕ, List, length, Result}
use Rattle.refusals.specs.declared.Refusal.{Refusal}
use Rattle.blocks.specs.declared.item.Item.{Item}
use Rattle.blocks.specs.declared.item.Reading.{Reading}
use Rattle.blocks.specs.Item.{item_at}

-- what stands at each place, and the number of words
pub record Code : Type 0 where
  pub item : ℕ → Result Item Refusal
  pub size : ℕ

-- these words, and what they are checked for
abbrev pub code_of : List ℕ → Reading → Code
code_of words by = record { item = item_at words by; size = length words }
