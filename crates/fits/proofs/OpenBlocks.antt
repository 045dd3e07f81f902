-- The open blocks of a wave that fits: each was opened in the code, and its sets are of launched lanes. So its part is 1 to 3, its opener
-- a place in the code, and its sets are below 2^32.
use mathlib.Core.Path.{◌≡◌, refl}
use mathlib.Core.Bool.{false}
use mathlib.Core.List.{List, [], ◌∷◌}
use Prim.Native.Nat.{ℕ, ◌+◌, ◌^◌, ◌≤◌, ◌<◌}
use native.Mathlib.Omega.{arith}
use lib.ListN.{length}
use Rattle.lanes.specs.Blocks.{before_else, loop_part}
use Rattle.lanes.specs.Sets.{bit, first, widest}
use Rattle.lanes.proofs.Bits.{within_first_lt}
use Rattle.blocks.specs.declared.item.Reading.{Reading}
use Rattle.blocks.specs.Code.{code_of}
use Rattle.blocks.specs.declared.rules.Part.{Part}
use Rattle.blocks.specs.Open.{Open, opened_at, part_number}
use Rattle.std.specs.Prelude.{Some, None}
use Rattle.nesting.specs.OpenAt.{Found, open_at}
use Rattle.blocks.proofs.Widths.{code_fits}
use Rattle.nesting.proofs.Openers.{EachOpened, each_opened}
use Rattle.lanes.specs.declared.said.Block.{Block}
use Rattle.wave.specs.Wave.{Wave, Preds}
use Rattle.wave.specs.Layout.{is_loop}
use Rattle.fits.specs.Fits.{Same, OpenThere, Quiet, WaveFits}
use Rattle.fits.proofs.AtLane.{FitsAt, fits_lanes}

-- a block of code of so many words
pub record Sized (words : ℕ) (b : Block) : Type 0 where
  pub some : before_else ≤ b.part
  pub few : b.part ≤ loop_part
  pub opener : b.opener < words
  pub entered : b.entered < 2 ^ widest
  pub aside : b.aside < 2 ^ widest
  pub again : b.again < 2 ^ widest
  pub left : b.left < 2 ^ widest
  pub quiet : is_loop b ≡ false → b.again ≡ 0

abbrev pub AllSized : ℕ → List Block → Type 0
AllSized words [] = Unit
AllSized words (b ∷ p) = Sized words b × AllSized words p

part_sized : (part : Part) → (before_else ≤ part_number part) × (part_number part ≤ loop_part)
part_sized Part.Before = (omega arith, omega arith)
part_sized Part.After = (omega arith, omega arith)
part_sized Part.Loop = (omega arith, omega arith)

module _ (code : List ℕ) (by : Reading) (n : ℕ) (wide : n ≤ widest) where
  sized : (h : ℕ) (m : ℕ → ℕ) (p : List Block) (o : List Open) → Same p o → EachOpened (code_of code by) o
      → ((i : ℕ) → FitsAt (first n) h i (m i) p) → Quiet p → AllSized (length code) p
  unfolding EachOpened
  sized h m [] o s r f q = tt
  sized h m (b ∷ p) [] s r f q = absurd s
  sized h m (b ∷ p) (opened_at part at ∷ o) s r f q =
      let k = part_sized part in
      let inside : at < length code = r.0.in_code in (
        record {
          some = omega (arith, s.0, k.0);
          few = omega (arith, s.0, k.1);
          opener = omega (arith, s.1, inside);
          entered = within_first_lt n widest b.entered wide (λ i. (f i).2);
          aside = within_first_lt n widest b.aside wide (λ i. omega (arith, (f i).0, (f i).2));
          again = within_first_lt n widest b.again wide (λ i. omega (arith, (f i).0, (f i).2));
          left = within_first_lt n widest b.left wide (λ i. omega (arith, (f i).0, (f i).2));
          quiet = q.0;
        },
        sized h (λ i. m i + bit b.aside i + bit b.again i) p o s.2 r.1 (λ i. (f i).3) q.1,
      )

  pub path_sized : (w : Wave) (ps : Preds) → WaveFits code by n w ps → AllSized (length code) w.path
  path_sized w ps f = at_place (open_at (code_of code by) w.place) refl f.blocks
    where
      at_place : (x : Found) → open_at (code_of code by) w.place ≡ x → OpenThere x w.path → AllSized (length code) w.path
      at_place None e s = absurd s
      at_place (Some o) e s =
          sized w.halted (λ i. bit w.active i) w.path o s
          (each_opened (code_of code by) (code_fits code by) w.place o e)
          (fits_lanes n w ps f.sets).0 f.sets.quiet
