-- An instruction of checked code keeps a fitting wave fitting: the blocks that the pass over the code has open where the instruction leads
-- are those that the wave has open after it.
use mathlib.Core.Path.{◌≡◌, refl, sym, ap, ◌∙◌, subst}
use mathlib.Core.Bool.{Bool, true, false, cond}
use mathlib.Core.List.{List, [], ◌∷◌, map}
use Prim.Native.Nat.{ℕ, suc, ◌+◌, ◌^◌, ◌≤◌, ◌<◌}
use native.Mathlib.Nat.{mod-eq_of_lt}
use native.Mathlib.Omega.{arith}
use borrow.Author.Tests.{lt-ltb}
use lib.ListN.{length}
use lib.Bits.{bit_or}
use lib.Dec.{eqb}
use Rattle.ground.proofs.Bools.{never}
use Rattle.instructions.specs.declared.instr.ControlOp.{ControlOp}
use Rattle.instructions.specs.declared.instr.ControlOp.TheVariants.{If, Else, Endif, Loop, Break, Continue, Endloop, Halt, Barrier, Nop}
use Rattle.lanes.specs.Sets.{bit, first, widest}
use Rattle.blocks.specs.declared.item.Item.{Item}
use Rattle.blocks.specs.declared.item.Reading.{Reading}
use Rattle.std.specs.Prelude.{Result, Ok}
use Rattle.refusals.specs.declared.Refusal.{Refusal}
use Rattle.blocks.specs.Item.{control_item, item_at}
use Rattle.blocks.specs.Code.{code_of}
use Rattle.blocks.specs.declared.rules.Part.{Part}
use Rattle.blocks.specs.Open.{Open, opened_at, in_loop}
use Rattle.lanes.specs.Blocks.{nesting}
use Rattle.blocks.specs.Scan.{check_of}
use Rattle.std.specs.Prelude.{Some, None}
use Rattle.nesting.specs.OpenAt.{Found, open_at}
use Rattle.blocks.proofs.Widths.{code_fits}
use Rattle.nesting.proofs.Induction.{open_at_start}
use Rattle.nesting.proofs.Openers.{at_most, EachOpened, each_opened}
use Rattle.nesting.proofs.Theorems.{Allowed, allowed}
use Rattle.lanes.specs.declared.said.Block.{Block}
use Rattle.wave.specs.Wave.{Wave, Preds, launch, clear, state_of}
use Rattle.wave.specs.Layout.{is_loop}
use Rattle.wave.specs.Going.{on_by, next, onward_by}
use Rattle.control.specs.Rules.{leave, broken, continued, to_loop, else_on, endif_on, endloop_on, barred, onward}
use Rattle.control.specs.Control.{control_rule}
use Rattle.fits.specs.Fits.{Same, OpenThere, WaveFits, Fits}
use Rattle.control.specs.Ready.{TopLoop, TopHalf, SomeLoop, Ready}
use Rattle.fits.proofs.AtLane.{PredsFit}
use Rattle.fits.proofs.Keeps.{keeps, keeps_onward, fits_launch}
use Rattle.wave.proofs.View.{wave_in_lem}

-- ---- blocks whose part and opener are the same
pub same_length : (p : List Block) (o : List Open) → Same p o → length p ≡ length o
same_length [] [] s = refl
same_length [] (x ∷ o) s = absurd s
same_length (b ∷ p) [] s = absurd s
same_length (b ∷ p) (x ∷ o) s = ap suc (same_length p o s.2)

same_left : (t : ℕ) (p : List Block) (o : List Open) → Same p o → Same (map (leave t) p) o
same_left t [] [] s = s
same_left t [] (x ∷ o) s = s
same_left t (b ∷ p) [] s = s
same_left t (b ∷ p) (x ∷ o) s = (s.0, s.1, same_left t p o s.2)

module _ (f : Block → Block) (part : (b : Block) → (f b).part ≡ b.part) (opener : (b : Block) → (f b).opener ≡ b.opener) (t : ℕ) where
  same_case : (c : Bool) (b : Block) (p : List Block) (x : Open) (o : List Open) → Same (b ∷ p) (x ∷ o) → Same (to_loop f t p) o
      → Same (cond c (f b ∷ p) (leave t b ∷ to_loop f t p)) (x ∷ o)
  same_case true b p x o s r = (part b ∙ s.0, opener b ∙ s.1, s.2)
  same_case false b p x o s r = (s.0, s.1, r)

  same_aside : (p : List Block) (o : List Open) → Same p o → Same (to_loop f t p) o
  same_aside [] [] s = s
  same_aside [] (x ∷ o) s = s
  same_aside (b ∷ p) [] s = absurd s
  same_aside (b ∷ p) (x ∷ o) s = same_case (is_loop b) b p x o s (same_aside p o s.2)

-- a loop among the code's blocks is one among the wave's
some_loop : (p : List Block) (o : List Open) → Same p o → in_loop o ≡ true → SomeLoop p
unfolding in_loop
some_loop [] [] s l = never l
some_loop [] (x ∷ o) s l = absurd s
some_loop (b ∷ p) [] s l = absurd s
some_loop (b ∷ p) (opened_at Part.Before q ∷ o) s l = rw s.0 (some_loop p o s.2 l)
some_loop (b ∷ p) (opened_at Part.After q ∷ o) s l = rw s.0 (some_loop p o s.2 l)
some_loop (b ∷ p) (opened_at Part.Loop q ∷ o) s l = rw s.0 tt

-- what the code has open where the wave's blocks are
record Found-there (f : Found) (p : List Block) : Type 0 where
  blocks : List Open
  found : f ≡ Some blocks
  same : Same p blocks

found_there : (f : Found) (p : List Block) → OpenThere f p → Found-there f p
found_there None p s = absurd s
found_there (Some o) p s = record { blocks = o; found = refl; same = s }

-- no more blocks are open than there is room for
pub path_room : (words : List ℕ) (by : Reading) (n : ℕ) (w : Wave) (ps : Preds) → WaveFits words by n w ps → length w.path ≤ nesting
path_room words by n w ps f =
    let g = found_there (open_at (code_of words by) w.place) w.path f.blocks in
    omega (
      arith,
      same_length w.path g.blocks g.same,
      at_most (code_of words by) (code_fits words by) w.place g.blocks g.found,
    )

-- ---- a launch fits, and so does the state that holds a wave that fits
pub launch_fits : (words : List ℕ) (by : Reading) (n : ℕ) → WaveFits words by n (launch n) clear
launch_fits words by n =
    record { blocks = rw (open_at_start (code_of words by) (code_fits words by)) tt; sets = fits_launch n }

pub state_fits_lem : (words : List ℕ) (by : Reading) (n : ℕ) (w : Wave) (ps : Preds) → n ≤ widest → WaveFits words by n w ps
    → Fits words by n (state_of w ps).hot (state_of w ps).blocks
state_fits_lem words by n w ps l f =
    let r : length w.path ≤ nesting = path_room words by n w ps f in
    record {
      wide = l;
      deep = r;
      wave = subst (λ (v : Wave). WaveFits words by n v ps) (sym (wave_in_lem w ps r)) f;
    }

-- ---- code of so many words that no place in it wraps
module _ (words : List ℕ) (by : Reading) (checked : check_of (code_of words by) ≡ Ok tt) (short : length words < 2 ^ 32) where
  -- the blocks o are open at a place, and p are the same
  stands : (at : ℕ) (p : List Block) (o : List Open) → open_at (code_of words by) at ≡ Some o → Same p o
      → OpenThere (open_at (code_of words by) at) p
  stands at p o e s = rw e s

  -- one word on
  stands_next : (at : ℕ) (p : List Block) (o : List Open) → at < length words → open_at (code_of words by) (at + 1) ≡ Some o → Same p o
      → OpenThere (open_at (code_of words by) (next at)) p
  stands_next at p o h e s =
      let z : next at ≡ at + 1 = mod-eq_of_lt (omega arith) in
      rw z (stands (at + 1) p o e s)

  -- the wave after a control instruction has open what the code has, and the instruction was ready
  record Stays (op : ControlOp) (w v : Wave) : Type 0 where
    ready : Ready op w.path
    blocks : OpenThere (open_at (code_of words by) v.place) v.path

  module _ (w : Wave) (h : w.place < length words) where
    else_stays : (p : List Block) (o : List Open) → Same p o → Allowed (code_of words by) (Ok Item.Else) w.place o
        → TopHalf p × OpenThere (open_at (code_of words by) (else_on p w).place) (else_on p w).path
    else_stays [] [] s a = absurd a
    else_stays [] (x ∷ o) s a = absurd s
    else_stays (b ∷ p) [] s a = absurd s
    else_stays (b ∷ p) (opened_at Part.Before q ∷ o) s a =
        (s.0, stands_next w.place (else_on (b ∷ p) w).path (opened_at Part.After q ∷ o) h a (refl, s.1, s.2))
    else_stays (b ∷ p) (opened_at Part.After q ∷ o) s a = absurd a
    else_stays (b ∷ p) (opened_at Part.Loop q ∷ o) s a = absurd a

    endif_stays : (p : List Block) (o : List Open) → Same p o → Allowed (code_of words by) (Ok Item.Endif) w.place o
        → TopLoop false p × OpenThere (open_at (code_of words by) (endif_on p w).place) (endif_on p w).path
    endif_stays [] [] s a = absurd a
    endif_stays [] (x ∷ o) s a = absurd s
    endif_stays (b ∷ p) [] s a = absurd s
    endif_stays (b ∷ p) (opened_at Part.Before q ∷ o) s a = (rw s.0, stands_next w.place p o h a s.2)
    endif_stays (b ∷ p) (opened_at Part.After q ∷ o) s a = (rw s.0, stands_next w.place p o h a s.2)
    endif_stays (b ∷ p) (opened_at Part.Loop q ∷ o) s a = absurd a

    endloop_case : (c : Bool) (b : Block) (p : List Block) (q : ℕ) (o : List Open) → eqb (bit_or w.active b.again) 0 ≡ c
        → Same (b ∷ p) (opened_at Part.Loop q ∷ o) → Allowed (code_of words by) (Ok Item.Endloop) w.place (opened_at Part.Loop q ∷ o) → q < length words
        → OpenThere (open_at (code_of words by) (endloop_on (b ∷ p) w).place) (endloop_on (b ∷ p) w).path
    endloop_case true b p q o e s a l = rw e (stands_next w.place p o h a.0 s.2)
    endloop_case false b p q o e s a l = rw (e, s.1) (stands_next q _ (opened_at Part.Loop q ∷ o) l a.1 (s.0, refl, s.2))

    endloop_stays : (p : List Block) (o : List Open) → Same p o → EachOpened (code_of words by) o
        → Allowed (code_of words by) (Ok Item.Endloop) w.place o
        → TopLoop true p × OpenThere (open_at (code_of words by) (endloop_on p w).place) (endloop_on p w).path
    unfolding EachOpened
    endloop_stays [] [] s r a = absurd a
    endloop_stays [] (x ∷ o) s r a = absurd s
    endloop_stays (b ∷ p) [] s r a = absurd s
    endloop_stays (b ∷ p) (opened_at Part.Before q ∷ o) s r a = absurd a
    endloop_stays (b ∷ p) (opened_at Part.After q ∷ o) s r a = absurd a
    endloop_stays (b ∷ p) (opened_at Part.Loop q ∷ o) s r a = (rw s.0, endloop_case _ b p q o refl s a r.0.in_code)

    barrier_stays : (c : Bool) (o : List Open) → open_at (code_of words by) w.place ≡ Some o
        → open_at (code_of words by) (w.place + 1) ≡ Some o → Same w.path o
        → OpenThere (open_at (code_of words by) (cond c w (onward w)).place) (cond c w (onward w)).path
    barrier_stays true o e a s = stands w.place w.path o e s
    barrier_stays false o e a s = stands_next w.place w.path o h a s

    stays : (op : ControlOp) (all t : ℕ) (o : List Open) → open_at (code_of words by) w.place ≡ Some o → Same w.path o
        → Allowed (code_of words by) (Ok (control_item op)) w.place o → Stays op w (control_rule op all t w)
    unfolding control_rule Ready
    stays If all t o e s a =
        let r : length w.path < nesting = omega (arith, a.0, same_length w.path o s) in
        record {
          ready = r;
          blocks = rw (lt-ltb (length w.path) nesting r)
              (stands_next w.place _ (opened_at Part.Before w.place ∷ o) h a.1 (refl, refl, s));
        }
    stays Else all t o e s a = let r = else_stays w.path o s a in record { ready = r.0; blocks = r.1 }
    stays Endif all t o e s a = let r = endif_stays w.path o s a in record { ready = r.0; blocks = r.1 }
    stays Loop all t o e s a =
        let r : length w.path < nesting = omega (arith, a.0, same_length w.path o s) in
        record {
          ready = r;
          blocks = rw (lt-ltb (length w.path) nesting r)
              (stands_next w.place _ (opened_at Part.Loop w.place ∷ o) h a.1 (refl, refl, s));
        }
    stays Break all t o e s a =
        record {
          ready = some_loop w.path o s a.0;
          blocks = stands_next w.place _ o h a.1 (same_aside (broken t) (λ b. refl) (λ b. refl) t w.path o s);
        }
    stays Continue all t o e s a =
        record {
          ready = some_loop w.path o s a.0;
          blocks = stands_next w.place _ o h a.1 (same_aside (continued t) (λ b. refl) (λ b. refl) t w.path o s);
        }
    stays Endloop all t o e s a =
        let r = endloop_stays w.path o s (each_opened (code_of words by) (code_fits words by) w.place o e) a in
        record { ready = r.0; blocks = r.1 }
    stays Halt all t o e s a = record { ready = tt; blocks = stands_next w.place _ o h a (same_left t w.path o s) }
    stays Barrier all t o e s a = record { ready = tt; blocks = barrier_stays (barred all w) o e a s }
    stays Nop all t o e s a = record { ready = tt; blocks = stands_next w.place w.path o h a s }

    -- what checked code lets stand at the place of a wave that fits
    stays_there : (op : ControlOp) (all t : ℕ) → item_at words by w.place ≡ Ok (control_item op)
        → OpenThere (open_at (code_of words by) w.place) w.path → Stays op w (control_rule op all t w)
    stays_there op all t i f =
        let g = found_there (open_at (code_of words by) w.place) w.path f in
        let a = allowed (code_of words by) (code_fits words by) checked w.place g.blocks g.found h in
        stays op all t g.blocks g.found g.same
        (subst (λ (x : Result Item Refusal). Allowed (code_of words by) x w.place g.blocks) i a)

    -- ---- a control instruction by lanes t of the active ones
    pub ready_there : (op : ControlOp) (n : ℕ) (ps : Preds) → item_at words by w.place ≡ Ok (control_item op) → WaveFits words by n w ps
        → Ready op w.path
    ready_there op n ps i f = (stays_there op 0 0 i f.blocks).ready

    pub control_keeps : (op : ControlOp) (n all t : ℕ) (ps : Preds) → item_at words by w.place ≡ Ok (control_item op)
        → ((i : ℕ) → bit t i ≤ bit w.active i) → WaveFits words by n w ps → WaveFits words by n (control_rule op all t w) ps
    control_keeps op n all t ps i v f =
        let r = stays_there op all t i f.blocks in
        record { blocks = r.blocks; sets = keeps op n all t w ps r.ready v f.sets }

    -- ---- an instruction of so many words that has no part in the blocks, with predicates of launched lanes
    pub onward_keeps : (n size : ℕ) (ps qs : Preds) → item_at words by w.place ≡ Ok (Item.Plain size) → w.place + size < 2 ^ 32
        → PredsFit (first n) qs → WaveFits words by n w ps → WaveFits words by n (onward_by size w) qs
    onward_keeps n size ps qs i l q f =
        let g = found_there (open_at (code_of words by) w.place) w.path f.blocks in
        let a = allowed (code_of words by) (code_fits words by) checked w.place g.blocks g.found h in
        let b = subst (λ (x : Result Item Refusal). Allowed (code_of words by) x w.place g.blocks) i a in
        let z : on_by size w.place ≡ w.place + size = mod-eq_of_lt l in
        record { blocks = rw z (stands (w.place + size) w.path g.blocks b g.same); sets = keeps_onward n size w ps qs q f.sets }
