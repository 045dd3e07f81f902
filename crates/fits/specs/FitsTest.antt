-- A test: theorems hold it to the page's words, as `Opens` has them.
-- The test of whether a handed-in state fits. That of its sets is on whole sets: a walk outward over the open blocks, with the lanes that
-- are active or set aside inside.
use Rattle.std.specs.Prelude.{Bool, true, false, ◌&&◌, ◌||◌, List, [], ◌∷◌, ℕ, zero, suc, get_or, eqb, leb}
use Rattle.std.specs.Int.Bits.{bit_and, bit_or}
use Rattle.lanes.specs.Blocks.{nesting}
use Rattle.lanes.specs.Sets.{first, widest}
use Rattle.blocks.specs.declared.item.Reading.{Reading}
use Rattle.blocks.specs.Code.{code_of}
use Rattle.blocks.specs.Open.{Open, part_number, part_number_of, opener_of}
use Rattle.nesting.specs.declared.places.OpenBlock.{OpenBlock}
use Rattle.std.specs.Prelude.{Some, None}
use Rattle.nesting.specs.OpenAt.{Found, open_at, unused}
use Rattle.lanes.specs.declared.said.Block.{Block}
use Rattle.wave.specs.declared.state.Hot.{Hot}
use Rattle.wave.specs.Wave.{Wave, Preds, wave_of, preds_of}
use Rattle.wave.specs.Layout.{is_loop, block_at}

-- no lane is in both sets
abbrev pub apart : ℕ → ℕ → Bool
apart a b = eqb (bit_and a b) 0

-- c is the disjoint union of a and b
abbrev pub joins : ℕ → ℕ → ℕ → Bool
joins a b c = apart a b && eqb (bit_or a b) c

-- each lane of a is in b
abbrev pub within : ℕ → ℕ → Bool
within a b = eqb (bit_and a b) a

-- the lanes `inner`, and those set aside in a block
abbrev pub with_aside : ℕ → Block → ℕ
with_aside inner b = bit_or (bit_or inner b.aside) b.again

-- one block; all: the launched lanes
abbrev pub block_test : ℕ → ℕ → Block → Bool
block_test all inner b =
    within b.entered all
    && (is_loop b || eqb b.again 0)
    && apart inner b.aside
    && apart (bit_or inner b.aside) b.again
    && joins b.left (with_aside inner b) b.entered

-- the path, and then the lanes that have halted
abbrev pub path_test : ℕ → ℕ → ℕ → List Block → Bool
path_test all halted inner [] = joins inner halted all
path_test all halted inner (b ∷ bs) = block_test all inner b && path_test all halted (with_aside inner b) bs

abbrev pub sets_test : ℕ → Wave → Preds → Bool
sets_test all w ps =
    path_test all w.halted w.active w.path && within ps.p1 all && within ps.p2 all && within ps.p3 all

-- ---- the open blocks against the code's
abbrev pub agree : List Block → List Open → Bool
agree [] [] = true
agree [] (x ∷ o) = false
agree (b ∷ bs) [] = false
agree (b ∷ bs) (x ∷ o) = eqb b.part (part_number_of x) && eqb b.opener (opener_of x) && agree bs o

abbrev pub place_test : Found → List Block → Bool
place_test None p = false
place_test (Some o) p = agree p o

-- the same of the first d blocks, outermost first: the wave's in xs, the code's in bs
abbrev pub same_block : List Block → List OpenBlock → ℕ → Bool
same_block xs bs d =
    eqb (block_at xs d).part (part_number (get_or bs d unused).part) && eqb (block_at xs d).opener (get_or bs d unused).opener

abbrev pub same_blocks : List Block → List OpenBlock → ℕ → Bool
same_blocks xs bs zero = true
same_blocks xs bs (suc d) = same_block xs bs d && same_blocks xs bs d

-- ---- the whole test
abbrev pub fits_test : List ℕ → Reading → ℕ → Hot → List Block → Bool
fits_test code by n h xs =
    leb n widest
    && leb h.depth nesting
    && place_test (open_at (code_of code by) h.place) (wave_of h xs).path
    && sets_test (first n) (wave_of h xs) (preds_of h)
