-- The open blocks of a wave that fits, in a body: there is room for their numbers, which are below 2^32, and they are blocks of the layout.
use mathlib.Core.Path.{◌≡◌, refl, ap, ◌∙◌}
use mathlib.Core.Bool.{Bool, true, false}
use mathlib.Core.List.{List, [], ◌∷◌, reverse, reverse-cons}
use Prim.Native.Nat.{ℕ, ◌≤◌}
use native.Mathlib.Omega.{arith}
use borrow.Author.Tests.{le-leb}
use Rattle.ground.specs.Tests.{all_of}
use Rattle.ground.proofs.Bools.{and_both}
use Rattle.ground.proofs.Tests.{all_append}
use Rattle.numbers.proofs.Numerals.{small_nil, small_cons}
use Rattle.body.specs.Body.{block_format, set_bytes}
use Rattle.body.specs.Layout.{last_place, block_fits}
use Rattle.lanes.specs.Blocks.{before_else, loop_part}
use Rattle.lanes.specs.declared.said.Block.{Block}
use Rattle.wave.specs.Layout.{is_loop}
use Rattle.fits.proofs.OpenBlocks.{Sized, AllSized}
use Rattle.replay.specs.Replay.{most_words}
use Rattle.key.proofs.Numbers.{block_room}

module _ (words : ℕ) (short : words ≤ most_words) where
  -- what holds of every block that is sized holds of all of them
  all_sized : (t : Block → Bool) → ((b : Block) → Sized words b → t b ≡ true) → (p : List Block) → AllSized words p → all_of t (reverse p) ≡ true
  unfolding all_of
  all_sized t h [] s = refl
  all_sized t h (b ∷ p) s =
      ap (all_of t) (reverse-cons b p) ∙ all_append t (reverse p) (b ∷ []) (all_sized t h p s.1) (and_both (t b) true (h b s.0) refl)

  sized_room : (b : Block) → Sized words b → (block_format set_bytes).fits b ≡ true
  sized_room b s =
      block_room b
      (small_cons b.part _ (omega (arith, s.few))
      (small_cons b.opener _ (omega (arith, s.opener))
      (small_cons b.entered _ s.entered
      (small_cons b.aside _ s.aside
      (small_cons b.again _ s.again
      (small_cons b.left [] s.left small_nil))))))

  pub all_room : (p : List Block) → AllSized words p → all_of (block_format set_bytes).fits (reverse p) ≡ true
  all_room = all_sized (block_format set_bytes).fits sized_room

  block_fits_lem : (b : Block) → Sized words b → (l : Bool) → is_loop b ≡ l → block_fits b ≡ true
  unfolding block_fits
  block_fits_lem b s true e =
      rw (le-leb b.opener last_place (omega (arith, s.opener)), le-leb before_else b.part s.some, le-leb b.part loop_part s.few, e)
  block_fits_lem b s false e =
      rw (
        le-leb b.opener last_place (omega (arith, s.opener)),
        le-leb before_else b.part s.some,
        le-leb b.part loop_part s.few,
        e,
        s.quiet e,
      )

  pub all_fit : (p : List Block) → AllSized words p → all_of block_fits (reverse p) ≡ true
  all_fit = all_sized block_fits (λ b s. block_fits_lem b s (is_loop b) refl)
