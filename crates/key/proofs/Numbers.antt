-- Blocks, written by their format, are their six numbers each, four bytes each; and there is room for numbers below 2^32.
use mathlib.Core.Path.{◌≡◌, refl, sym, ap₂, ◌∙◌}
use mathlib.Core.Bool.{true}
use mathlib.Core.List.{List, [], ◌∷◌, ◌++◌, append-nil, flat_map}
use Prim.Native.Nat.{ℕ}
use Rattle.ground.specs.Tests.{all_of}
use Rattle.ground.proofs.Bools.{and_both}
use Rattle.numbers.specs.Numbers.{bytes_of_all, Small}
use Rattle.numbers.proofs.Numerals.{bytes_append, small_drop, small_front}
use Rattle.formats.specs.Format.{number, both, seen_as}
use Rattle.formats.proofs.Words.{four_bytes}
use Rattle.lanes.specs.declared.said.Block.{Block}
use Rattle.body.specs.Body.{block_format, set_bytes}
use Rattle.key.specs.Putting.{Put}
use Rattle.key.proofs.Drafting.{four_fits, put_both}

-- a block's numbers
abbrev pub six_of : Block → List ℕ
six_of b = b.part ∷ b.opener ∷ b.entered ∷ b.aside ∷ b.again ∷ b.left ∷ []

block_written : (b : Block) → (block_format set_bytes).write b ≡ bytes_of_all (six_of b)
unfolding block_format seen_as both number bytes_of_all flat_map
block_written b = simp (four_bytes, append-nil)

blocks_written : (bs : List Block) → flat_map (block_format set_bytes).write bs ≡ bytes_of_all (flat_map six_of bs)
unfolding flat_map bytes_of_all
blocks_written [] = refl
blocks_written (b ∷ bs) = ap₂ ◌++◌ (block_written b) (blocks_written bs) ∙ sym (bytes_append (six_of b) (flat_map six_of bs))

-- a block has room if its six numbers have
pub block_room : (b : Block) → Small (six_of b) → (block_format set_bytes).fits b ≡ true
unfolding block_format seen_as both
block_room b h =
    and_both ((number 4).fits b.part) _ (four_fits _ (h.below 0))
    (and_both ((number 4).fits b.opener) _ (four_fits _ (h.below 1))
    (and_both ((number 4).fits b.entered) _ (four_fits _ (h.below 2))
    (and_both ((number 4).fits b.aside) _ (four_fits _ (h.below 3))
    (and_both ((number 4).fits b.again) _ (four_fits _ (h.below 4)) (four_fits _ (h.below 5))))))

blocks_room : (bs : List Block) → Small (flat_map six_of bs) → all_of (block_format set_bytes).fits bs ≡ true
unfolding flat_map all_of
blocks_room [] h = refl
blocks_room (b ∷ bs) h =
    and_both ((block_format set_bytes).fits b) _ (block_room b (small_front (six_of b) (flat_map six_of bs) h)) (blocks_room bs (small_drop (six_of b) (flat_map six_of bs) h))

-- its numbers, put one behind another, are the block
pub block_put : (b : Block) {o p q r s t u : List ℕ} → Put (number 4) b.part o p → Put (number 4) b.opener p q → Put (number 4) b.entered q r
    → Put (number 4) b.aside r s → Put (number 4) b.again s t → Put (number 4) b.left t u → Put (block_format set_bytes) b o u
unfolding block_format seen_as
block_put b a c d e f g =
    let six = put_both a (put_both c (put_both d (put_both e (put_both f g)))) in record { fits = six.fits; stands = six.stands }
