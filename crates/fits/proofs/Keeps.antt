-- A control instruction of checked code keeps the sets fitting: at each lane, what it takes from one set of the sum it adds to another.
use mathlib.Core.Path.{◌≡◌, refl, sym, ap, ◌∙◌}
use mathlib.Core.Bool.{Bool, true, false, cond}
use mathlib.Core.List.{List, [], ◌∷◌, map}
use Prim.Native.Nat.{ℕ, ◌+◌, ◌≤◌}
use native.Mathlib.Omega.{arith}
use borrow.Author.Tests.{lt-ltb, eqb-true}
use lib.ListN.{length}
use lib.Bits.{bit_or}
use lib.Dec.{eqb}
use Rattle.ground.proofs.Bools.{never}
use Rattle.instructions.specs.declared.instr.ControlOp.{ControlOp}
use Rattle.instructions.specs.declared.instr.ControlOp.TheVariants.{If, Else, Endif, Loop, Break, Continue, Endloop, Halt, Barrier, Nop}
use Rattle.lanes.specs.Sets.{bit, first}
use Rattle.lanes.proofs.Bits.{bit_le, bit_zero, bit_and_lem, bit_or_lem, bit_without, set_ext}
use Rattle.lanes.specs.declared.said.Block.{Block}
use Rattle.lanes.specs.Blocks.{nesting}
use Rattle.wave.specs.Wave.{Wave, Preds, launch, clear}
use Rattle.wave.specs.Layout.{is_loop}
use Rattle.wave.specs.Going.{onward_by}
use Rattle.control.specs.Rules.{leave, broken, continued, to_loop, onward, else_on, endif_on, endif_rule, endloop_on, endloop_rule, barred}
use Rattle.control.specs.Control.{control_rule}
use Rattle.fits.specs.Fits.{SetsFit}
use Rattle.control.specs.Ready.{TopLoop, TopHalf, SomeLoop, Ready, HandsBack}
use Rattle.fits.proofs.AtLane.{FitsAt, PredsFit, at, launched, fits_lanes, lanes_fit}

-- the wave fits at lane i, with l the launched lanes
abbrev WaveFits : ℕ → ℕ → Wave → Type 0
WaveFits l i w = FitsAt l w.halted i (bit w.active i) w.path

module _ (l h i : ℕ) where
  -- ---- lanes t go from the active ones (n before, m after) to the innermost loop's aside or again set, by g
  either : (c : Bool) (n : ℕ) (xs ys : List Block) (S : Type 0) → cond c Unit S → (c ≡ true → FitsAt l h i n xs) → (S → FitsAt l h i n ys)
      → FitsAt l h i n (cond c xs ys)
  either true n xs ys S s f g = f refl
  either false n xs ys S s f g = g s

  module _ (t : ℕ) (g : Block → Block) (part : (b : Block) → (g b).part ≡ b.part) (entered : (b : Block) → (g b).entered ≡ b.entered)
      (left : (b : Block) → (g b).left ≡ b.left)
      (holds : (b : Block) → bit b.aside i + bit b.again i + bit t i ≤ 1
      → bit (g b).aside i + bit (g b).again i ≡ bit b.aside i + bit b.again i + bit t i) where
    to_loop_lem : (n m : ℕ) (bs : List Block) → SomeLoop bs → bit t i + m ≡ n → FitsAt l h i n bs → FitsAt l h i m (to_loop g t bs)
    to_loop_lem n m [] s e f = absurd s
    to_loop_lem n m (b ∷ bs) s e f =
        let k : bit (g b).aside i + bit (g b).again i ≡ bit b.aside i + bit b.again i + bit t i =
        holds b (omega (arith, bit_le b.entered i)) in
        either (is_loop b) m (g b ∷ bs) (leave t b ∷ to_loop g t bs) (SomeLoop bs) s
        (λ y. (rw (entered, left) (omega arith), (λ x. never (sym (rw part at x) ∙ y)), rw entered f.2, at l h i bs (omega arith) f.3))
        (λ s'. (rw bit_or_lem (omega (arith, bit_le b.entered i, bit_le t i)), f.1, f.2, to_loop_lem (n + bit b.aside i + bit b.again i) (m + bit b.aside i + bit b.again i) bs s' (omega arith) f.3))

  -- ---- or to the halted ones, and leave every block
  leaves : (t n m : ℕ) (bs : List Block) → bit t i + m ≡ n → FitsAt l h i n bs → FitsAt l (bit_or h t) i m (map (leave t) bs)
  leaves t n m [] e f = rw bit_or_lem (omega (arith, bit_le l i, bit_le t i))
  leaves t n m (b ∷ bs) e f =
      (rw bit_or_lem (omega (arith, bit_le b.entered i, bit_le t i)), f.1, f.2, leaves t (n + bit b.aside i + bit b.again i) (m + bit b.aside i + bit b.again i) bs (omega arith) f.3)

-- ---- the rules that look at the innermost block, at the path p of the wave w
module _ (l i : ℕ) (w : Wave) where
  else_keeps : (p : List Block) → TopHalf p → FitsAt l w.halted i (bit w.active i) p → WaveFits l i (else_on p w)
  else_keeps [] r f = absurd r
  else_keeps (b ∷ bs) r f = (omega arith, (λ x. f.1 (rw r)), f.2, at l w.halted i bs (omega arith) f.3)

  endif_keeps : (p : List Block) → TopLoop false p → FitsAt l w.halted i (bit w.active i) p → WaveFits l i (endif_on p w)
  endif_keeps [] r f = absurd r
  endif_keeps (b ∷ bs) r f =
      let z : bit b.again i ≡ 0 = f.1 r in
      at l w.halted i bs (rw bit_or_lem (omega (arith, bit_le b.entered i))) f.3

  endloop_case : (c : Bool) (b : Block) (bs : List Block) → eqb (bit_or w.active b.again) 0 ≡ c
      → FitsAt l w.halted i (bit w.active i) (b ∷ bs) → WaveFits l i (endloop_on (b ∷ bs) w)
  endloop_case true b bs e f =
      let none : bit (bit_or w.active b.again) i ≡ bit 0 i = ap (λ (s : ℕ). bit s i) (eqb-true (bit_or w.active b.again) 0 e) in
      rw e (at l w.halted i bs (omega (arith, bit_or_lem w.active b.again i, bit_zero i)) f.3)
  endloop_case false b bs e f =
      rw e (
        simp (bit_or_lem, bit_zero) (omega (arith, bit_le b.entered i)),
        (λ x. bit_zero i),
        f.2,
        at l w.halted i bs (simp (bit_or_lem, bit_zero) (omega (arith, bit_le b.entered i))) f.3,
      )

  endloop_keeps : (p : List Block) → TopLoop true p → FitsAt l w.halted i (bit w.active i) p → WaveFits l i (endloop_on p w)
  endloop_keeps [] r f = absurd r
  endloop_keeps (b ∷ bs) r f = endloop_case _ b bs refl f

  barrier_keeps : (c : Bool) → WaveFits l i w → WaveFits l i (cond c w (onward w))
  barrier_keeps true f = f
  barrier_keeps false f = f

-- ---- every rule, at a lane
keeps_at : (op : ControlOp) (l all t i : ℕ) (w : Wave) → Ready op w.path → bit t i ≤ bit w.active i → WaveFits l i w
    → WaveFits l i (control_rule op all t w)
unfolding control_rule Ready
keeps_at If l all t i w r v f =
    rw (lt-ltb (length w.path) nesting r) (
      simp (bit_and_lem, bit_without, bit_zero) (omega arith),
      (λ x. bit_zero i),
      omega (arith, launched l w.halted i _ w.path f),
      at l w.halted i w.path (simp (bit_and_lem, bit_without, bit_zero) (omega arith)) f,
    )
keeps_at Else l all t i w r v f = else_keeps l i w w.path r f
keeps_at Endif l all t i w r v f = endif_keeps l i w w.path r f
keeps_at Loop l all t i w r v f =
    rw (lt-ltb (length w.path) nesting r) (
      simp bit_zero (omega arith),
      (λ x. bit_zero i),
      omega (arith, launched l w.halted i _ w.path f),
      at l w.halted i w.path (simp bit_zero (omega arith)) f,
    )
keeps_at Break l all t i w r v f =
    to_loop_lem l w.halted i t (broken t) (λ b. refl) (λ b. refl) (λ b. refl) (λ b k. rw bit_or_lem (omega arith)) _ _ w.path r
    (rw bit_without (omega arith)) f
keeps_at Continue l all t i w r v f =
    to_loop_lem l w.halted i t (continued t) (λ b. refl) (λ b. refl) (λ b. refl) (λ b k. rw bit_or_lem (omega arith)) _ _ w.path r
    (rw bit_without (omega arith)) f
keeps_at Endloop l all t i w r v f = endloop_keeps l i w w.path r f
keeps_at Halt l all t i w r v f = leaves l w.halted i t _ _ w.path (rw bit_without (omega arith)) f
keeps_at Barrier l all t i w r v f = barrier_keeps l i w (barred all w) f
keeps_at Nop l all t i w r v f = f

-- ---- a control instruction by lanes t of the active ones keeps fitting sets fitting
pub keeps : (op : ControlOp) (n all t : ℕ) (w : Wave) (ps : Preds) → Ready op w.path → ((i : ℕ) → bit t i ≤ bit w.active i)
    → SetsFit n w ps → SetsFit n (control_rule op all t w) ps
keeps op n all t w ps r v f =
    let g = fits_lanes n w ps f in
    lanes_fit n (control_rule op all t w) ps (λ i. keeps_at op (first n) all t i w r (v i) (g.0 i)) g.1

-- an instruction of so many words that is no control instruction changes predicates at active lanes, and no other set
pub keeps_onward : (n size : ℕ) (w : Wave) (ps qs : Preds) → PredsFit (first n) qs → SetsFit n w ps → SetsFit n (onward_by size w) qs
keeps_onward n size w ps qs q f = lanes_fit n (onward_by size w) qs (fits_lanes n w ps f).0 q

-- the active lanes were launched
pub active_launched : (n : ℕ) (w : Wave) (ps : Preds) → SetsFit n w ps → (i : ℕ) → bit w.active i ≤ bit (first n) i
active_launched n w ps f i =
    omega (arith, launched (first n) w.halted i (bit w.active i) w.path ((fits_lanes n w ps f).0 i))

-- a launch's sets fit
pub fits_launch : (n : ℕ) → SetsFit n (launch n) clear
fits_launch n =
    lanes_fit n (launch n) clear (λ i. omega (arith, bit_zero i))
    (record { in1 = λ i. omega (arith, bit_zero i); in2 = λ i. omega (arith, bit_zero i); in3 = λ i. omega (arith, bit_zero i) })

-- ---- a block that closes makes exactly the lanes active that entered it, less those that left it
endif_back : (l : ℕ) (w : Wave) (p : List Block) → TopLoop false p → ((i : ℕ) → FitsAt l w.halted i (bit w.active i) p)
    → HandsBack (endif_on p w).active p
endif_back l w [] r f = absurd r
endif_back l w (b ∷ bs) r f =
    set_ext _ _ λ i.
    let z : bit b.again i ≡ 0 = (f i).1 r in
    let y = (f i).0 in
    rw (bit_or_lem, bit_without) (omega (arith, bit_le b.entered i))

pub endif_hands_back : (n : ℕ) (w : Wave) (ps : Preds) → Ready Endif w.path → SetsFit n w ps → HandsBack (endif_rule w).active w.path
unfolding Ready
endif_hands_back n w ps r f = endif_back (first n) w w.path r (fits_lanes n w ps f).0

-- ENDLOOP closes its loop where no lane is active or continued
abbrev pub Closes : ℕ → List Block → Type 0
Closes a [] = ⊥
Closes a (b ∷ bs) = bit_or a b.again ≡ 0

done_back : (l : ℕ) (w : Wave) (p : List Block) → Closes w.active p → ((i : ℕ) → FitsAt l w.halted i (bit w.active i) p)
    → HandsBack (endloop_on p w).active p
done_back l w [] c f = absurd c
done_back l w (b ∷ bs) c f =
    rw c
    (set_ext _ _ λ i.
    let z : bit (bit_or w.active b.again) i ≡ bit 0 i = ap (λ (s : ℕ). bit s i) c in
    let y = (f i).0 in
    rw bit_without (omega (arith, bit_le b.entered i, bit_or_lem w.active b.again i, bit_zero i)))

pub done_hands_back : (n : ℕ) (w : Wave) (ps : Preds) → Closes w.active w.path → SetsFit n w ps
    → HandsBack (endloop_rule w).active w.path
done_hands_back n w ps c f = done_back (first n) w w.path c (fits_lanes n w ps f).0
