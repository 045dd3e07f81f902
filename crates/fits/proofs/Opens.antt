-- A state fits by the pass over the code exactly if it does by what the words have at its place.
use Prim.Native.Nat.{ℕ, ◌≤◌}
use native.Mathlib.Nat.{min-eq_left}
use native.Mathlib.Omega.{arith}
use native.Mathlib.Decide.{dec_lt}
use mathlib.Core.Path.{◌≡◌, refl, sym, ap, subst}
use mathlib.Core.Logic.{◌⊎◌, ◌↔◌, inl, inr, dite}
use mathlib.Core.List.{List}
use lib.ListN.{length}
use Rattle.lanes.specs.Blocks.{nesting}
use Rattle.lanes.specs.Sets.{widest}
use Rattle.instructions.specs.declared.instr.Instr.{Instr}
use Rattle.words.specs.Rules.{Stands}
use Rattle.words.proofs.Standing.{stood}
use Rattle.blocks.specs.declared.item.Reading.{Reading}
use Rattle.blocks.specs.Code.{code_of}
use Rattle.blocks.specs.Open.{Open}
use Rattle.std.specs.Prelude.{Some, None}
use Rattle.nesting.specs.OpenAt.{Found, open_at}
use Rattle.nesting.specs.Nesting.{Nested}
use Rattle.blocks.proofs.Widths.{code_fits}
use Rattle.nesting.proofs.Induction.{found_within}
use Rattle.nesting.proofs.Nested.{opened_room, opened_if, passes_if}
use Rattle.nesting.proofs.Instructions.{instruction_there}
use Rattle.lanes.specs.declared.said.Block.{Block}
use Rattle.wave.specs.declared.state.Hot.{Hot}
use Rattle.wave.specs.Layout.{opened}
use Rattle.wave.specs.Wave.{Wave, wave_of, preds_of}
use Rattle.fits.specs.Fits.{OpenThere, WaveFits, Fits}
use Rattle.fits.specs.Opens.{Opens, whole_wave, StateFits}
use Rattle.wave.proofs.Laying.{length-opened}
use Rattle.fits.proofs.Stays.{same_length}

module _ (code : List ℕ) (by : Reading) (nested : Nested code by) (place : ℕ) (path : List Block) where
  -- an instruction stands where the pass comes by, or the code ends
  first_word : (o : List Open) → open_at (code_of code by) place ≡ Some o → ((x : Instr) × Stands code place x) ⊎ (place ≡ length code)
  first_word o e =
      dite (dec_lt place (length code))
      (λ h.
      let i = instruction_there code by place ((passes_if code by).1 nested) o e h in
      inl (i.instr, (stood code place i.instr i.width i.reads).0))
      (λ h. inr (omega (arith, found_within (code_of code by) (code_fits code by) place o e)))

  opens : (f : Found) → open_at (code_of code by) place ≡ f → OpenThere f path → Opens code by place path
  opens None e s = absurd s
  opens (Some o) e s =
      let x = (opened_if code by place o).0 e in
      record { first_word = first_word o e; room = x.0; blocks = o; opened = x.1; same = s }

  -- THE PLACE AND THE OPEN BLOCKS FIT exactly if the words have them
  pub opens_if : OpenThere (open_at (code_of code by) place) path ↔ Opens code by place path
  opens_if = (
    opens (open_at (code_of code by) place) refl,
    λ o. subst (λ (f : Found). OpenThere f path) (sym ((opened_if code by place o.blocks).1 (o.room, o.opened))) o.same,
  )

module _ (code : List ℕ) (by : Reading) (n : ℕ) (nested : Nested code by) (wide : n ≤ widest) (h : Hot) (xs : List Block) where
  -- the wave that is read of a depth of at most 32 is the whole one
  whole : h.depth ≤ nesting → wave_of h xs ≡ whole_wave h xs
  whole deep =
      ap (λ (k : ℕ). record { place = h.place; active = h.active; halted = h.halted; path = opened xs k }) (min-eq_left deep)

  fits : (w : Wave) → wave_of h xs ≡ w → WaveFits code by n (wave_of h xs) (preds_of h) → WaveFits code by n w (preds_of h)
  fits w e f = subst (λ (v : Wave). WaveFits code by n v (preds_of h)) e f

  -- no more blocks are open than there is room for
  pub depth_room : Opens code by h.place (opened xs h.depth) → h.depth ≤ nesting
  depth_room o =
      omega (
        arith,
        length-opened xs h.depth,
        same_length (opened xs h.depth) o.blocks o.same,
        opened_room code by o.room o.blocks h.place o.opened,
      )

  -- A STATE FITS exactly if it does in the page's words
  pub state_fits_if : Fits code by n h xs ↔ StateFits code by n h xs
  state_fits_if = (
    λ f.
        let w = fits (whole_wave h xs) (whole f.deep) f.wave in
        record { opens = (opens_if code by nested h.place (opened xs h.depth)).0 w.blocks; sets = w.sets },
    λ s.
        let deep = depth_room s.opens in
        record {
          wide = wide;
          deep = deep;
          wave =
              subst (λ (v : Wave). WaveFits code by n v (preds_of h)) (sym (whole deep))
              (record { blocks = (opens_if code by nested h.place (opened xs h.depth)).1 s.opens; sets = s.sets });
        },
  )
