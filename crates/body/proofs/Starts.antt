-- A body says its own length: what follows it changes nothing, and a body at the front of bytes can be cut off.
use mathlib.Core.Path.{◌≡◌, refl, sym, ap, subst}
use Prim.Native.Nat.{ℕ, ◌≤◌}
use mathlib.Core.List.{List, ◌++◌, map}
use mathlib.Core.Bool.{Bool, true, ◌&&◌}
use native.Mathlib.Omega.{arith}
use native.Mathlib.Nat.{mul-le-mul_left}
use lib.Dec.{leb, eqb}
use lib.ListN.{length, take, drop, length-append, length-map, take-append-drop}
use lib.Seq.{length-take-le}
use borrow.Author.Tests.{leb-true, le-leb, eq-eqb, eqb-true}
use Rattle.ground.specs.Tests.{one_of, all_of}
use Rattle.ground.proofs.Bools.{and_left, and_right, and_both}
use Rattle.ground.proofs.Tests.{one_all}
use Rattle.lanes.specs.declared.said.Fault.{Fault}
use Rattle.body.specs.Body.{Parts, body_format}
use Rattle.body.specs.Layout.{last_place, most_kinds, Kinds, kind_lists, fault_bytes, block_bytes, length_of, apart, faults_fit, block_fits, of_layout, starts, is_whole}
use Rattle.lanes.specs.Blocks.{nesting}
use Rattle.body.specs.Places.{count_at, depth_at}
use Rattle.body.proofs.Formats.{body_lawful}
use Rattle.body.proofs.Places.{count_faults, depth_blocks, size_place}

-- what fits the layout, by its sentences
pub record Fits (k : Kinds) (p : Parts) : Type 0 where
  pub place : p.place ≤ last_place
  pub faults : faults_fit k p.faults ≡ true
  pub depth : length p.blocks ≤ nesting
  pub blocks : all_of block_fits p.blocks ≡ true

module _ (k : Kinds) (p : Parts) where
  pub fits_of : of_layout k p ≡ true → Fits k p
  unfolding of_layout
  fits_of e =
      let D = leb (length p.blocks) nesting in
      let B = all_of block_fits p.blocks in
      let F = faults_fit k p.faults in
      let L = leb p.place last_place in
      let a = and_right L (F && (D && B)) e in
      let b = and_right F (D && B) a in
      record {
        place = leb-true _ _ (and_left L (F && (D && B)) e);
        faults = and_left F (D && B) a;
        depth = leb-true _ _ (and_left D B b);
        blocks = and_right D B b;
      }

  pub of_fits : Fits k p → of_layout k p ≡ true
  unfolding of_layout
  of_fits h = rw (le-leb p.place last_place h.place, h.faults, le-leb (length p.blocks) nesting h.depth) h.blocks

-- ---- s starts with a body

pub record Starts (k : Kinds) (w : ℕ) (s : List ℕ) : Type 0 where
  pub fits : Fits k ((body_format w).read s)
  pub room : (body_format w).size s ≤ length s

module _ (k : Kinds) (w : ℕ) (s : List ℕ) where
  pub starts_of : starts k w s ≡ true → Starts k w s
  unfolding starts
  starts_of e =
      let F = of_layout k ((body_format w).read s) in
      let R = leb ((body_format w).size s) (length s) in
      record { fits = fits_of k ((body_format w).read s) (and_left F R e); room = leb-true _ _ (and_right F R e) }

pub of_starts : {k : Kinds} {w : ℕ} (s : List ℕ) → Starts k w s → starts k w s ≡ true
unfolding starts
of_starts {k} {w} s h = and_both _ _ (of_fits k ((body_format w).read s) h.fits) (le-leb ((body_format w).size s) (length s) h.room)

-- ---- what follows a body

module _ {k : Kinds} {w : ℕ} (b t : List ℕ) where
  pub starts_append : Starts k w b → (Starts k w (b ++ t)) × ((body_format w).size (b ++ t) ≡ (body_format w).size b)
  starts_append s =
      let r = s.room in
      let z = (body_lawful w).still b t r in
      let n = length-append b t in
      (record { fits = subst (Fits k) (sym ((body_lawful w).front b t r)) s.fits; room = omega arith }, z)

  pub starts_front : Starts k w (b ++ t) → (body_format w).size (b ++ t) ≤ length b
      → (Starts k w b) × ((body_format w).size (b ++ t) ≡ (body_format w).size b)
  starts_front s r =
      let a = (body_lawful w).alone b t r in
      let z = a.1 in
      (record { fits = subst (Fits k) (sym a.0) s.fits; room = omega arith }, sym z)

-- ---- whole bodies

pub body_starts : (k : Kinds) (w : ℕ) (b : List ℕ) → is_whole k w b ≡ true → (Starts k w b) × (length b ≡ (body_format w).size b)
unfolding is_whole
body_starts k w b e =
    let S = starts k w b in
    let L = eqb (length b) ((body_format w).size b) in
    (starts_of k w b (and_left S L e), eqb-true _ _ (and_right S L e))

pub starts_body_lem : {k : Kinds} {w : ℕ} (b : List ℕ) → Starts k w b → length b ≡ (body_format w).size b → is_whole k w b ≡ true
unfolding is_whole
starts_body_lem {w = w} b s e = and_both _ _ (of_starts b s) (eq-eqb (length b) ((body_format w).size b) e)

-- what stands at the front, cut off, is a body
pub cut_body : {k : Kinds} {w : ℕ} (s : List ℕ) → Starts k w s → is_whole k w (take ((body_format w).size s) s) ≡ true
cut_body {k} {w} s h =
    let n = (body_format w).size s in
    let b = take n s in
    let t = drop n s in
    let e : b ++ t ≡ s = take-append-drop n s in
    let l : length b ≡ n = length-take-le n s h.room in
    let z : (body_format w).size (b ++ t) ≡ n = ap (body_format w).size e in
    let r = starts_front b t (subst (Starts k w) (sym e) h) (omega arith) in
    let r1 = r.1 in
    starts_body_lem b r.0 (omega arith)

-- ---- how long it is

-- every list of a table has 1 to n kinds
abbrev pub few : ℕ → List ℕ → Bool
few n ks = leb 1 (length ks) && leb (length ks) n

pub kinds_count : (k : Kinds) (n : ℕ) → all_of (few n) k ≡ true → (fs : List Fault) → faults_fit k fs ≡ true → (1 ≤ length fs) × (length fs ≤ n)
unfolding faults_fit
kinds_count k n h fs e =
    let ks = map (λ (f : Fault). f.kind) fs in
    let l : length ks ≡ length fs = length-map fs (λ (f : Fault). f.kind) in
    let t = one_all (few n) ks k (and_left (one_of ks k) (apart (map (λ (f : Fault). f.lanes) fs)) e) h in
    let a = leb-true 1 (length ks) (and_left (leb 1 (length ks)) (leb (length ks) n) t) in
    let b = leb-true (length ks) n (and_right (leb 1 (length ks)) (leb (length ks) n) t) in
    (omega arith, omega arith)

-- and so it is at least as long as with one kind and no block, and at most as with n kinds in 32 blocks
pub starts_long : (k : Kinds) (w n : ℕ) → all_of (few n) k ≡ true → (s : List ℕ) → Starts k w s
    → (length_of w 1 0 ≤ (body_format w).size s) × ((body_format w).size s ≤ length_of w n nesting)
starts_long k w n f s h =
    let c = kinds_count k n f ((body_format w).read s).faults h.fits.faults in
    let e = size_place w s in
    let faults : count_at s ≤ n = omega (arith, c.1, count_faults w s) in
    let some : 1 ≤ count_at s = omega (arith, c.0, count_faults w s) in
    let blocks : depth_at w s ≤ nesting = omega (arith, h.fits.depth, depth_blocks w s) in
    let a = mul-le-mul_left (fault_bytes w) some in
    let b = mul-le-mul_left (fault_bytes w) faults in
    let d = mul-le-mul_left (block_bytes w) blocks in
    (omega arith, omega arith)

-- with the page's table one to three
pub page_few : all_of (few most_kinds) kind_lists ≡ true
unfolding all_of kind_lists
page_few = refl

pub page_count : (fs : List Fault) → faults_fit kind_lists fs ≡ true → (1 ≤ length fs) × (length fs ≤ most_kinds)
page_count = kinds_count kind_lists most_kinds page_few
