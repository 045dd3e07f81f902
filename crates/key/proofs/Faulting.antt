-- The body of a machine in order whose instruction faults: every number of it is below 2^32, since its sets are of launched lanes and its
-- places in the code; and it is of the layout.
use mathlib.Core.Path.{◌≡◌, sym, ap, ◌∙◌, subst}
use mathlib.Core.Bool.{true}
use mathlib.Core.List.{List}
use Prim.Native.Nat.{ℕ, ◌≤◌, ◌<◌}
use native.Mathlib.Omega.{arith}
use borrow.Author.Tests.{leb-true}
use lib.ListN.{length}
use Rattle.ground.specs.Tests.{all_of}
use Rattle.lanes.specs.Sets.{bit, first, widest}
use Rattle.lanes.proofs.Bits.{within_first_lt}
use Rattle.numbers.specs.Numbers.{bound}
use Rattle.fetching.specs.Fetching.{fetch_at}
use Rattle.wave.specs.Wave.{state_of}
use Rattle.fits.proofs.AtLane.{launched, fits_lanes}
use Rattle.fits.proofs.Keeps.{active_launched}
use Rattle.fits.proofs.Stays.{path_room}
use Rattle.fits.proofs.OpenBlocks.{AllSized, path_sized}
use Rattle.faulting.specs.declared.faults.Faults.{Faults}
use Rattle.faulting.specs.Kinds.{lanes_of_kind}
use Rattle.faulting.proofs.KindsApart.{Apart}
use Rattle.stepping.specs.declared.settings.Settings.{Settings}
use Rattle.stepping.specs.Machine.{Machine}
use Rattle.replay.specs.Replay.{most_words, reading_of}
use Rattle.runs.proofs.Keeping.{inside}
use Rattle.runs.proofs.Stopping.{FaultsAt}
use Rattle.stepping.proofs.FaultKinds.{Faulty, step_faulty, step_apart, Lanes, step_lanes}
use Rattle.runs.proofs.Returns.{Launchable, lanes_most, InOrder}
use Rattle.body.specs.Body.{block_format, body_format, set_bytes}
use Rattle.body.specs.Layout.{kind_lists, block_fits, fits_layout}
use Rattle.lanes.specs.Blocks.{nesting}
use Rattle.body.proofs.Starts.{of_fits}
use Rattle.key.specs.Key.{parts_of}
use Rattle.key.proofs.Bodies.{parts_room}
use Rattle.key.proofs.Kinding.{kinds_room}
use Rattle.key.proofs.KindsFit.{kinds_fit}
use Rattle.key.proofs.BlocksFit.{all_room, all_fit}
use Rattle.key.proofs.Paths.{length-blocks, blocks_path}

module _ (s : Settings) (code : List ℕ) (l : Launchable s code) (m : Machine) (o : InOrder s code l m) (f : Faults) (x : FaultsAt s code m f)
    (kernel : ℕ) where
  few_words : length code ≤ most_words
  few_words = leb-true (length code) most_words l.short

  there : m.wave.place < length code
  there = inside s code m x.unended

  faulty : Faulty f
  faulty = subst Faulty (sym x.faults) (step_faulty s (fetch_at code m.wave.place) m)

  none_twice : Apart f
  none_twice = subst Apart (sym x.faults) (step_apart s (fetch_at code m.wave.place) m)

  lanes : (k : ℕ) → Lanes m.wave.active (lanes_of_kind k f)
  lanes k =
      subst (λ (g : Faults). Lanes m.wave.active (lanes_of_kind k g)) (sym x.faults) (step_lanes s (fetch_at code m.wave.place) m k)

  -- a set of active lanes, and the halted lanes
  active_small : (set : ℕ) → ((i : ℕ) → bit set i ≤ bit m.wave.active i) → set < bound
  active_small set h =
      within_first_lt s.lanes widest set (lanes_most s code l)
      (λ i. omega (arith, h i, active_launched s.lanes m.wave m.preds o.fits.sets i))

  halted_small : m.wave.halted < bound
  halted_small =
      within_first_lt s.lanes widest m.wave.halted (lanes_most s code l)
      (λ i.
      omega (
        arith,
        launched (first s.lanes) m.wave.halted i (bit m.wave.active i) m.wave.path
            ((fits_lanes s.lanes m.wave m.preds o.fits.sets).0 i),
      ))

  room : length m.wave.path ≤ nesting
  room = path_room code (reading_of s) s.lanes m.wave m.preds o.fits

  blocks_sized : AllSized (length code) m.wave.path
  blocks_sized = path_sized code (reading_of s) s.lanes (lanes_most s code l) m.wave m.preds o.fits

  -- every number is below 2^32, so that there is room for it
  pub machine_room : kernel < bound → (body_format set_bytes).fits (parts_of kernel f (state_of m.wave m.preds)) ≡ true
  machine_room k =
      let state = state_of m.wave m.preds in
      parts_room kernel f state k (omega (arith, there, few_words)) (kinds_room f (λ k. active_small (lanes_of_kind k f) (lanes k)))
      (active_small m.wave.active (λ i. omega arith)) halted_small (omega (arith, room))
      (ap (all_of (block_format set_bytes).fits) (blocks_path m.wave m.preds) ∙ all_room (length code) few_words m.wave.path blocks_sized)

  -- the body is of the layout
  pub machine_fits : fits_layout (parts_of kernel f (state_of m.wave m.preds)) ≡ true
  unfolding parts_of
  machine_fits =
      of_fits kind_lists (parts_of kernel f (state_of m.wave m.preds))
      (record {
        place = omega (arith, there, few_words);
        faults = kinds_fit f faulty none_twice x.unclear;
        depth = omega (arith, length-blocks (state_of m.wave m.preds), room);
        blocks = ap (all_of block_fits) (blocks_path m.wave m.preds) ∙ all_fit (length code) few_words m.wave.path blocks_sized;
      })
