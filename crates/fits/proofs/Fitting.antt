-- The test of a handed-in state is true exactly if the state fits. Its sets: what is tested of whole sets holds at every lane.
use mathlib.Core.Path.{◌≡◌, refl, sym, ap, ◌∙◌}
use mathlib.Core.Bool.{Bool, true, false, ◌&&◌, ◌||◌}
use mathlib.Core.Logic.{◌↔◌}
use mathlib.Core.List.{List, [], ◌∷◌}
use Prim.Native.Nat.{ℕ, ◌+◌, ◌≤◌}
use native.Mathlib.Omega.{arith}
use borrow.Author.Tests.{eqb-true, eq-eqb, leb-true, le-leb}
use lib.Bits.{bit_and, bit_or}
use lib.Dec.{eqb, leb}
use Rattle.lanes.specs.Blocks.{nesting}
use Rattle.ground.proofs.Bools.{never, and_left, and_right, and_both}
use Rattle.lanes.specs.Sets.{bit, first, widest}
use Rattle.lanes.proofs.Bits.{bit_le, bit_zero, bit_or_lem, set_ext, apart_sum, sum_apart, within_le, le_within}
use Rattle.blocks.specs.declared.item.Reading.{Reading}
use Rattle.blocks.specs.Code.{code_of}
use Rattle.blocks.specs.Open.{Open, part_number_of, opener_of}
use Rattle.std.specs.Prelude.{Some, None}
use Rattle.nesting.specs.OpenAt.{Found, open_at}
use Rattle.lanes.specs.declared.said.Block.{Block}
use Rattle.wave.specs.declared.state.Hot.{Hot}
use Rattle.wave.specs.Wave.{Wave, Preds, wave_of, preds_of}
use Rattle.wave.specs.Layout.{is_loop}
use Rattle.fits.specs.Fits.{SetsFit, Same, OpenThere, Fits}
use Rattle.fits.specs.FitsTest.{apart, joins, within, with_aside, block_test, path_test, sets_test, agree, place_test, fits_test}
use Rattle.fits.proofs.AtLane.{FitsAt, at, fits_lanes, lanes_fit}

-- ---- each test by itself
apart_yes : (a b : ℕ) → apart a b ≡ true → (i : ℕ) → bit (bit_or a b) i ≡ bit a i + bit b i
apart_yes a b t = apart_sum a b (eqb-true (bit_and a b) 0 t)

yes_apart : (a b : ℕ) → ((i : ℕ) → bit a i + bit b i ≤ 1) → apart a b ≡ true
yes_apart a b h = eq-eqb (bit_and a b) 0 (sum_apart a b h)

-- a disjoint union is a sum at each lane
joins_sum : (a b c : ℕ) → joins a b c ≡ true → (i : ℕ) → bit c i ≡ bit a i + bit b i
joins_sum a b c t i =
    ap (λ (s : ℕ). bit s i) (sym (eqb-true (bit_or a b) c (and_right (apart a b) (eqb (bit_or a b) c) t)))
    ∙ apart_yes a b (and_left (apart a b) (eqb (bit_or a b) c) t) i

sum_joins : (a b c : ℕ) → ((i : ℕ) → bit c i ≡ bit a i + bit b i) → joins a b c ≡ true
sum_joins a b c h =
    and_both (apart a b) (eqb (bit_or a b) c) (yes_apart a b (λ i. omega (arith, h i, bit_le c i)))
    (eq-eqb (bit_or a b) c (set_ext (bit_or a b) c (λ i. bit_or_lem a b i ∙ omega (arith, h i, bit_le c i))))

within_yes : (a b : ℕ) → within a b ≡ true → (i : ℕ) → bit a i ≤ bit b i
within_yes a b t = within_le a b (eqb-true (bit_and a b) a t)

yes_within : (a b : ℕ) → ((i : ℕ) → bit a i ≤ bit b i) → within a b ≡ true
yes_within a b h = eq-eqb (bit_and a b) a (le_within a b h)

quiet_yes : (c : Bool) (n : ℕ) → (c || eqb n 0) ≡ true → c ≡ false → (i : ℕ) → bit n i ≡ 0
quiet_yes true n t e i = never (sym e)
quiet_yes false n t e i = ap (λ (s : ℕ). bit s i) (eqb-true n 0 t) ∙ bit_zero i

yes_quiet : (c : Bool) (n : ℕ) → ((i : ℕ) → c ≡ false → bit n i ≡ 0) → (c || eqb n 0) ≡ true
yes_quiet true n h = refl
yes_quiet false n h = eq-eqb n 0 (set_ext n 0 (λ i. h i refl ∙ sym (bit_zero i)))

-- ---- one block: its tests by name
record BlockFits (all inner : ℕ) (b : Block) : Type 0 where
  entered : within b.entered all ≡ true
  quiet : (is_loop b || eqb b.again 0) ≡ true
  waiting : apart inner b.aside ≡ true
  going : apart (bit_or inner b.aside) b.again ≡ true
  whole : joins b.left (with_aside inner b) b.entered ≡ true

block_yes : (all inner : ℕ) (b : Block) → block_test all inner b ≡ true → BlockFits all inner b
block_yes all inner b t =
    let c1 : Bool = within b.entered all in
    let c2 : Bool = is_loop b || eqb b.again 0 in
    let c3 : Bool = apart inner b.aside in
    let c4 : Bool = apart (bit_or inner b.aside) b.again in
    let c5 : Bool = joins b.left (with_aside inner b) b.entered in
    let t4 : (c1 && c2 && c3 && c4) ≡ true = and_left (c1 && c2 && c3 && c4) c5 t in
    let t3 : (c1 && c2 && c3) ≡ true = and_left (c1 && c2 && c3) c4 t4 in
    let t2 : (c1 && c2) ≡ true = and_left (c1 && c2) c3 t3 in
    record {
      entered = and_left c1 c2 t2;
      quiet = and_right c1 c2 t2;
      waiting = and_right (c1 && c2) c3 t3;
      going = and_right (c1 && c2 && c3) c4 t4;
      whole = and_right (c1 && c2 && c3 && c4) c5 t;
    }

yes_block : (all inner : ℕ) (b : Block) → BlockFits all inner b → block_test all inner b ≡ true
yes_block all inner b f = rw (f.entered, f.quiet, f.waiting, f.going, f.whole)

-- ---- the path
path_yes : (all h a : ℕ) (bs : List Block) → path_test all h a bs ≡ true → (i : ℕ) → FitsAt all h i (bit a i) bs
path_yes all h a [] t i = sym (joins_sum a h all t i)
path_yes all h a (b ∷ bs) t i =
    let f = block_yes all a b (and_left (block_test all a b) (path_test all h (with_aside a b) bs) t) in
    let x = apart_yes a b.aside f.waiting i in
    let y = apart_yes (bit_or a b.aside) b.again f.going i in
    let z = joins_sum b.left (with_aside a b) b.entered f.whole i in (
      omega arith,
      (λ e. quiet_yes (is_loop b) b.again f.quiet e i),
      within_yes b.entered all f.entered i,
      at all h i bs (omega arith) (path_yes all h (with_aside a b) bs (and_right (block_test all a b) (path_test all h (with_aside a b) bs) t) i),
    )

yes_path : (all h a : ℕ) (bs : List Block) → ((i : ℕ) → FitsAt all h i (bit a i) bs) → path_test all h a bs ≡ true
yes_path all h a [] f = sum_joins a h all (λ i. sym (f i))
yes_path all h a (b ∷ bs) f =
    let x : (i : ℕ) → bit (bit_or a b.aside) i ≡ bit a i + bit b.aside i =
    λ i. bit_or_lem a b.aside i ∙ omega (arith, (f i).0, bit_le b.entered i) in
    let y : (i : ℕ) → bit (with_aside a b) i ≡ bit (bit_or a b.aside) i + bit b.again i =
    λ i. bit_or_lem (bit_or a b.aside) b.again i ∙ omega (arith, (f i).0, x i, bit_le b.entered i) in
    and_both (block_test all a b) (path_test all h (with_aside a b) bs)
    (yes_block all a b (record {
      entered = yes_within b.entered all (λ i. (f i).2);
      quiet = yes_quiet (is_loop b) b.again (λ i. (f i).1);
      waiting = yes_apart a b.aside (λ i. omega (arith, (f i).0, bit_le b.entered i));
      going = yes_apart (bit_or a b.aside) b.again (λ i. omega (arith, (f i).0, x i, bit_le b.entered i));
      whole = sum_joins b.left (with_aside a b) b.entered (λ i. omega (arith, (f i).0, x i, y i));
    }))
    (yes_path all h (with_aside a b) bs (λ i. at all h i bs (omega (arith, x i, y i)) (f i).3))

-- ---- the sets: the test is true exactly if they fit
module _ (n : ℕ) (w : Wave) (ps : Preds) where
  sets_yes : sets_test (first n) w ps ≡ true → SetsFit n w ps
  sets_yes t =
      let c1 : Bool = within ps.p1 (first n) in
      let c2 : Bool = within ps.p2 (first n) in
      let c3 : Bool = within ps.p3 (first n) in
      let c0 : Bool = path_test (first n) w.halted w.active w.path in
      let t2 : (c0 && c1 && c2) ≡ true = and_left (c0 && c1 && c2) c3 t in
      let t1 : (c0 && c1) ≡ true = and_left (c0 && c1) c2 t2 in
      lanes_fit n w ps (path_yes (first n) w.halted w.active w.path (and_left c0 c1 t1)) (record {
        in1 = within_yes ps.p1 (first n) (and_right c0 c1 t1);
        in2 = within_yes ps.p2 (first n) (and_right (c0 && c1) c2 t2);
        in3 = within_yes ps.p3 (first n) (and_right (c0 && c1 && c2) c3 t);
      })

  yes_sets : SetsFit n w ps → sets_test (first n) w ps ≡ true
  yes_sets f =
      let g = fits_lanes n w ps f in
      rw (
        yes_path (first n) w.halted w.active w.path g.0,
        yes_within ps.p1 (first n) g.1.in1,
        yes_within ps.p2 (first n) g.1.in2,
        yes_within ps.p3 (first n) g.1.in3,
      )

-- ---- the open blocks
agree_yes : (p : List Block) (o : List Open) → agree p o ≡ true → Same p o
agree_yes [] [] t = tt
agree_yes [] (x ∷ o) t = never t
agree_yes (b ∷ p) [] t = never t
agree_yes (b ∷ p) (x ∷ o) t =
    let c1 : Bool = eqb b.part (part_number_of x) in
    let c2 : Bool = eqb b.opener (opener_of x) in
    let t1 : (c1 && c2) ≡ true = and_left (c1 && c2) (agree p o) t in (
      eqb-true b.part (part_number_of x) (and_left c1 c2 t1),
      eqb-true b.opener (opener_of x) (and_right c1 c2 t1),
      agree_yes p o (and_right (c1 && c2) (agree p o) t),
    )

yes_agree : (p : List Block) (o : List Open) → Same p o → agree p o ≡ true
yes_agree [] [] s = refl
yes_agree [] (x ∷ o) s = absurd s
yes_agree (b ∷ p) [] s = absurd s
yes_agree (b ∷ p) (x ∷ o) s =
    rw (eq-eqb b.part (part_number_of x) s.0, eq-eqb b.opener (opener_of x) s.1, yes_agree p o s.2)

place_yes : (f : Found) (p : List Block) → place_test f p ≡ true → OpenThere f p
place_yes None p t = never t
place_yes (Some o) p t = agree_yes p o t

yes_place : (f : Found) (p : List Block) → OpenThere f p → place_test f p ≡ true
yes_place None p s = absurd s
yes_place (Some o) p s = yes_agree p o s

-- ---- the whole state
module _ (code : List ℕ) (by : Reading) (n : ℕ) (h : Hot) (xs : List Block) where
  fits_yes : fits_test code by n h xs ≡ true → Fits code by n h xs
  fits_yes t =
      let c1 : Bool = leb n widest in
      let c2 : Bool = leb h.depth nesting in
      let c3 : Bool = place_test (open_at (code_of code by) h.place) (wave_of h xs).path in
      let c4 : Bool = sets_test (first n) (wave_of h xs) (preds_of h) in
      let t3 : (c1 && c2 && c3) ≡ true = and_left (c1 && c2 && c3) c4 t in
      let t2 : (c1 && c2) ≡ true = and_left (c1 && c2) c3 t3 in
      record {
        wide = leb-true n widest (and_left c1 c2 t2);
        deep = leb-true h.depth nesting (and_right c1 c2 t2);
        wave =
            record {
              blocks = place_yes (open_at (code_of code by) h.place) (wave_of h xs).path (and_right (c1 && c2) c3 t3);
              sets = sets_yes n (wave_of h xs) (preds_of h) (and_right (c1 && c2 && c3) c4 t);
            };
      }

  yes_fits : Fits code by n h xs → fits_test code by n h xs ≡ true
  yes_fits f =
      rw (
        le-leb n widest f.wide,
        le-leb h.depth nesting f.deep,
        yes_place (open_at (code_of code by) h.place) (wave_of h xs).path f.wave.blocks,
        yes_sets n (wave_of h xs) (preds_of h) f.wave.sets,
      )

  pub fits_test_lem : (fits_test code by n h xs ≡ true) ↔ Fits code by n h xs
  fits_test_lem = (fits_yes, yes_fits)
