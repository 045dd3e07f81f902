-- The open blocks of a state against the code's, block by block, is the comparison of the two lists of blocks.
use mathlib.Core.Path.{◌≡◌, refl, sym, ap, ◌∙◌}
use mathlib.Core.Bool.{Bool, false, ◌&&◌, and_assoc, and-true, and-false}
use mathlib.Core.List.{List, [], ◌∷◌}
use mathlib.Core.Logic.{dite}
use Prim.Native.Nat.{ℕ, zero, suc, ◌-◌, ◌≤◌, ◌<◌, min}
use native.Mathlib.Nat.{min-eq_left}
use native.Mathlib.Decide.{dec_lt, ℕ_discrete}
use native.Mathlib.Omega.{arith}
use borrow.Author.Tests.{eq-eqb, ne_eqb, lt-leb}
use lib.ListN.{length, set}
use Rattle.std.proofs.lemmas.Option.{none-some, same_Some}
use Rattle.std.specs.Prelude.{Some, None}
use lib.Seq.{get_or-set_same, get_or-set_other}
use lib.Dec.{eqb, leb}
use Rattle.lanes.specs.Blocks.{nesting}
use Rattle.lanes.specs.Sets.{first, widest}
use Rattle.blocks.specs.declared.item.Reading.{Reading}
use Rattle.nesting.specs.declared.places.OpenBlock.{OpenBlock}
use Rattle.nesting.specs.declared.places.Stack.{Stack}
use Rattle.blocks.specs.Code.{code_of}
use Rattle.blocks.specs.Open.{Open, opened_at, part_number_of, opener_of}
use Rattle.nesting.specs.OpenAt.{Found, open_at, block_of, unused, slots, stack_of, shown}
use Rattle.blocks.proofs.Widths.{code_fits}
use Rattle.nesting.proofs.Openers.{at_most}
use Rattle.nesting.proofs.Stacks.{length-slots}
use Rattle.lanes.specs.declared.said.Block.{Block}
use Rattle.wave.specs.declared.state.Hot.{Hot}
use Rattle.wave.specs.Layout.{opened}
use Rattle.wave.specs.Wave.{wave_of, preds_of}
use Rattle.fits.specs.FitsTest.{agree, place_test, same_block, same_blocks, sets_test, fits_test}
use Rattle.wave.proofs.Laying.{length-opened}

-- ---- the walk outward
pub same_next : (xs : List Block) (bs : List OpenBlock) (ok t : Bool) (i : ℕ) → 0 < i → t ≡ same_block xs bs (i - 1)
    → (ok && t && same_blocks xs bs (i - 1)) ≡ (ok && same_blocks xs bs i)
same_next xs bs ok t zero p e = absurd (omega arith)
same_next xs bs ok t (suc i) p e =
    let z : suc i - 1 ≡ i = omega arith in
    rw (e, z) (and_assoc ok (same_block xs bs i) (same_blocks xs bs i))

pub same_end : (xs : List Block) (bs : List OpenBlock) (ok : Bool) (i d : ℕ) → i ≡ 0
    → (ok && same_blocks xs bs i) ≡ same_blocks xs bs d → ok ≡ same_blocks xs bs d
same_end xs bs ok i d z e = sym (and-true ok) ∙ rw z at e

-- ---- the code's blocks in their slots
-- what stands further in is not compared
same_below : (xs : List Block) (bs : List OpenBlock) (k : ℕ) (v : OpenBlock) (d : ℕ) → d ≤ k → same_blocks xs (set bs k v) d ≡ same_blocks xs bs d
same_below xs bs k v zero h = refl
same_below xs bs k v (suc d) h =
    rw (get_or-set_other bs k d v unused (omega arith), same_below xs bs k v d (omega arith))

same_agree : (xs : List Block) (o : List Open) → length o ≤ nesting → same_blocks xs (slots o) (length o) ≡ agree (opened xs (length o)) o
unfolding slots
same_agree xs [] h = refl
same_agree xs (opened_at part p ∷ o) h =
    rw (
      get_or-set_same (slots o) (length o) (block_of (opened_at part p)) unused (omega (arith, length-slots o)),
      same_below xs (slots o) (length o) (block_of (opened_at part p)) (length o) (omega arith),
      same_agree xs o (omega arith),
    )

-- lists of unequal length do not agree
unequal : (p : List Block) (o : List Open) → (length p ≡ length o → ⊥) → agree p o ≡ false
unequal [] [] h = absurd (h refl)
unequal [] (x ∷ o) h = refl
unequal (b ∷ p) [] h = refl
unequal (b ∷ p) (x ∷ o) h =
    rw (unequal p o (λ e. h (ap suc e))) (and-false (eqb b.part (part_number_of x) && eqb b.opener (opener_of x)))

-- ---- what was found at the place, against the first d blocks of the array
there_agrees : (xs : List Block) (d : ℕ) (o : List Open) → length o ≤ nesting → (eqb (length o) d && same_blocks xs (slots o) d) ≡ agree (opened xs d) o
there_agrees xs d o h =
    elim (ℕ_discrete (length o) d) [
      | yes e ↦ rw (← e, eq-eqb (length o) (length o) refl) (same_agree xs o h)
      | no e ↦ rw (ne_eqb (length o) d e) (sym (unequal (opened xs d) o (λ z. e (sym z ∙ length-opened xs d))))
    ]

-- a stack s, or none
found_agrees : (xs : List Block) (d : ℕ) (f : Found) (s : Stack) → Some s ≡ shown f → ((o : List Open) → f ≡ Some o → length o ≤ nesting)
    → (eqb s.depth d && same_blocks xs s.blocks d) ≡ place_test f (opened xs d)
found_agrees xs d None s e h = absurd (none-some s (sym e))
found_agrees xs d (Some o) s e h = let z = same_Some s (stack_of o) e in rw z (there_agrees xs d o (h o refl))

module _ (code : List ℕ) (by : Reading) (h : Hot) (xs : List Block) where
  pub there_tested : {d : ℕ} (s : Stack) → d ≡ min h.depth nesting → Some s ≡ shown (open_at (code_of code by) h.place)
      → (eqb s.depth d && same_blocks xs s.blocks d) ≡ place_test (open_at (code_of code by) h.place) (wave_of h xs).path
  there_tested s f e =
      rw f (found_agrees xs (min h.depth nesting) (open_at (code_of code by) h.place) s e (λ o z. at_most (code_of code by) (code_fits code by) h.place o z))

-- ---- the whole test: with more lanes than the widest wave has it says no, whatever the sets
pub tested : (code : List ℕ) (by : Reading) (n all : ℕ) (h : Hot) (xs : List Block) (placed sets : Bool) → all ≡ first (min n widest)
    → placed ≡ place_test (open_at (code_of code by) h.place) (wave_of h xs).path → sets ≡ sets_test all (wave_of h xs) (preds_of h)
    → (leb n widest && leb h.depth nesting && placed && sets) ≡ fits_test code by n h xs
tested code by n all h xs placed sets e f g =
    dite (dec_lt widest n)
    (λ p. rw (lt-leb n widest p))
    (λ p. let z : min n widest ≡ n = min-eq_left (omega arith) in rw (f, g, e, z))
