-- What the laws of day files ask of bodies: what follows one changes nothing, one at the front can be cut off, and none is empty or very long.
-- Bodies of any table of kinds, with any few bytes for a set of lanes, are so.
use mathlib.Core.Path.{◌≡◌, sym, ◌∙◌}
use Prim.Native.Nat.{ℕ, ◌≤◌}
use mathlib.Core.Bool.{true}
use mathlib.Core.List.{List, ◌++◌}
use native.Mathlib.Omega.{arith}
use lib.ListN.{length, take}
use Rattle.ground.specs.Tests.{all_of}
use Rattle.body.specs.Body.{set_bytes}
use Rattle.body.specs.Layout.{Kinds, kind_lists, most_kinds, length_of}
use Rattle.lanes.specs.Blocks.{nesting}
use Rattle.body.proofs.Starts.{starts_of, of_starts, starts_append, body_starts, cut_body, few, starts_long, page_few}
use Rattle.dayfile.specs.Day.{Layout, layout_of, page}

-- 1,024 bodies of so many bytes and their table have places below 2^32
abbrev pub most_long : ℕ
most_long = 0x100000

pub record Lawful (L : Layout) : Type 0 where
  pub followed : (b t : List ℕ) → L.whole b ≡ true → (L.starts (b ++ t) ≡ true) × (L.size (b ++ t) ≡ length b)
  pub front : (s : List ℕ) → L.starts s ≡ true → (L.size s ≤ length s) × (L.whole (take (L.size s) s) ≡ true)
  pub long : (b : List ℕ) → L.whole b ≡ true → (1 ≤ length b) × (length b ≤ most_long)

-- n is the most kinds of the table
pub layout_lawful : (k : Kinds) (w n : ℕ) → all_of (few n) k ≡ true → length_of w n nesting ≤ most_long → Lawful (layout_of k w)
layout_lawful k w n f m =
    record {
      followed = λ b t e. let s = body_starts k w b e in let a = starts_append b t s.0 in (of_starts (b ++ t) a.0, a.1 ∙ sym s.1);
      front = λ s e. let h = starts_of k w s e in (h.room, cut_body s h);
      long = λ b e. let s = body_starts k w b e in let l = starts_long k w n f b s.0 in (omega (arith, s.1, l.0), omega (arith, s.1, l.1, m));
    }

pub page_lawful : Lawful page
page_lawful = layout_lawful kind_lists set_bytes most_kinds page_few (omega arith)
