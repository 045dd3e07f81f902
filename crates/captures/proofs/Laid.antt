-- A capture's file, laid down part by part: how long it is, and that the parts put one behind another are the file.
use mathlib.Core.Path.{◌≡◌, refl, sym, ap, ◌∙◌}
use Prim.Native.Nat.{ℕ, ◌+◌, ◌*◌, ◌≤◌, ◌<◌}
use mathlib.Core.Bool.{Bool, true, false, ◌&&◌, and_assoc}
use mathlib.Core.List.{List, [], ◌∷◌, ◌++◌, flatten, append-nil}
use native.Mathlib.Omega.{arith}
use lib.Dec.{ltb}
use lib.ListN.{length, length-append, length-map}
use borrow.Author.Tests.{ltb-true, lt-ltb, le-leb, lt-leb}
use Rattle.ground.specs.Tests.{all_of}
use Rattle.ground.proofs.Bools.{and_left, and_right, and_both}
use Rattle.numbers.specs.Numbers.{bound, bytes_of_all, Small}
use Rattle.numbers.specs.Placed.{placed}
use Rattle.numbers.proofs.Numerals.{small_nil, small_cons, small_tail, length-bytes_of_all}
use Rattle.numbers.proofs.Behind.{behind}
use Rattle.refusals.specs.declared.Rule.{Rule}
use Rattle.refusals.specs.Table.{broken}
use Rattle.captures.specs.declared.answer.Head.{Head}
use Rattle.captures.specs.declared.answer.Parts.{Parts}
use Rattle.std.specs.Prelude.{Ok, Err}
use Rattle.captures.specs.Capture.{mark, edition, setting_count, part_count, header_bytes, Capture, counts_of, numbers_of, capture_of}
use Rattle.captures.specs.Capture.{in_order, in_parts, captured, state_fits, shapely, fits}
use Rattle.captures.specs.Read.{end_from, place_of, places_in}
use Rattle.captures.specs.Write.{wrote, write_of}
use Rattle.captures.proofs.Parts.{end_length, place_end}

-- ---- which captures have a file

all_small : (ns : List ℕ) → all_of (λ n. ltb n bound) ns ≡ true → Small ns
unfolding all_of
all_small [] e = small_nil
all_small (n ∷ ns) e = small_cons n ns (ltb-true n bound (and_left _ _ e)) (all_small ns (and_right (ltb n bound) _ e))

small_all : (ns : List ℕ) → Small ns → all_of (λ n. ltb n bound) ns ≡ true
unfolding all_of
small_all [] h = refl
small_all (n ∷ ns) h = and_both _ _ (lt-ltb n bound (h.below 0)) (small_all ns (small_tail h))

module _ (parts : List (List ℕ)) where
  pub fits_small : fits parts ≡ true → Small (counts_of parts)
  unfolding fits
  fits_small e = all_small (counts_of parts) (and_left _ _ e)

  pub fits_shape : fits parts ≡ true → shapely parts ≡ true
  unfolding fits
  fits_shape e = and_right (all_of (λ n. ltb n bound) (counts_of parts)) _ e

  pub small_fits : Small (counts_of parts) → shapely parts ≡ true → fits parts ≡ true
  unfolding fits
  small_fits h s = and_both _ _ (small_all (counts_of parts) h) s

-- the tests as the code makes them
pub fits_so : (a b c d e : List ℕ) (s : Bool) → s ≡ state_fits e
    → (((((ltb (length a) bound && ltb (length b) bound) && ltb (length c) bound) && ltb (length d) bound) && ltb (length e) bound) && s)
    ≡ fits (in_parts a b c d e)
unfolding fits all_of
fits_so a b c d e s q = rw q (simp and_assoc)

-- ---- the file's length

module _ (c : Capture) (s : length c.settings ≡ setting_count) (p : length c.parts ≡ part_count) where
  pub length_capture : length (capture_of c) ≡ place_of (counts_of c.parts) part_count
  unfolding capture_of numbers_of
  length_capture =
      let b = length-bytes_of_all (numbers_of c) in
      let x = length-append c.settings (counts_of c.parts ++ (0 ∷ flatten c.parts)) in
      let y = length-append (counts_of c.parts) (0 ∷ flatten c.parts) in
      let n = length-map c.parts length in
      let e = end_length header_bytes c.parts in
      let q = place_end (counts_of c.parts) (n ∙ p) in
      omega arith

pub total_so : (head : Head) (parts : List (List ℕ)) (ns : List ℕ) (n : ℕ) → length parts ≡ part_count → n ≡ place_of ns part_count
    → ns ≡ counts_of parts → n ≡ length (capture_of (captured head parts))
total_so head parts ns n five e q =
    e ∙ ap (λ (l : List ℕ). place_of l part_count) q ∙ sym (length_capture (captured head parts) refl five)

-- ---- part by part

module _ (head : Head) (a b c d e : List ℕ) (n : Parts ℕ) (en : in_order n ≡ counts_of (in_parts a b c d e)) where
  pub laid : (at : Parts ℕ) → at ≡ places_in (in_order n) → (o o₁ o₂ o₃ o₄ o₅ o₆ : List ℕ)
      → o₁ ≡ placed o 0 (bytes_of_all (mark ∷ edition ∷ head.kernel ∷ head.width ∷ head.registers ∷ head.lanes ∷ head.budget
      ∷ n.code ∷ n.registers ∷ n.device ∷ n.local ∷ n.state ∷ 0 ∷ []))
      → o₂ ≡ placed o₁ at.code (bytes_of_all a) → o₃ ≡ placed o₂ at.registers (bytes_of_all b) → o₄ ≡ placed o₃ at.device (bytes_of_all c)
      → o₅ ≡ placed o₄ at.local (bytes_of_all d) → o₆ ≡ placed o₅ at.state (bytes_of_all e)
      → o₆ ≡ placed o 0 (capture_of (captured head (in_parts a b c d e)))
  unfolding capture_of numbers_of places_in place_of end_from flatten
  laid at ea o o₁ o₂ o₃ o₄ o₅ o₆ e1 e2 e3 e4 e5 e6 =
      let places : at ≡ places_in (counts_of (in_parts a b c d e)) = ea ∙ ap places_in en in
      let ka : at.code ≡ header_bytes = ap (λ (p : Parts ℕ). p.code) places in
      let kb : at.registers ≡ at.code + 4 * length a = ap (λ (p : Parts ℕ). p.registers) places ∙ omega arith in
      let kc : at.device ≡ at.registers + 4 * length b = ap (λ (p : Parts ℕ). p.device) places ∙ omega arith in
      let kd : at.local ≡ at.device + 4 * length c = ap (λ (p : Parts ℕ). p.local) places ∙ omega arith in
      let ke : at.state ≡ at.local + 4 * length d = ap (λ (p : Parts ℕ). p.state) places ∙ omega arith in
      let l6 = e6 ∙ ap (λ (l : List ℕ). placed o₅ at.state (bytes_of_all l)) (sym (append-nil e)) in
      let l5 = behind d (e ++ []) o₄ o₅ o₆ at.local at.state ke e5 l6 in
      let l4 = behind c _ o₃ o₄ o₆ at.device at.local kd e4 l5 in
      let l3 = behind b _ o₂ o₃ o₆ at.registers at.device kc e3 l4 in
      let l2 = behind a _ o₁ o₂ o₆ at.code at.registers kb e2 l3 in
      let header = ap (λ (l : List ℕ). placed o 0 (bytes_of_all (mark ∷ edition ∷ head.kernel ∷ head.width ∷ head.registers ∷ head.lanes ∷ head.budget ∷ (l ++ (0 ∷ []))))) en in
      behind _ _ o o₁ o₆ 0 at.code (omega arith) (e1 ∙ header) l2

-- ---- the answer

module _ (c : Capture) (o : List ℕ) where
  pub write_not : fits c.parts ≡ false → wrote (Err (broken Rule.NotOfLayout 0)) o ≡ write_of c o
  unfolding write_of
  write_not e = rw e

  pub write_short : (n : ℕ) → fits c.parts ≡ true → n ≡ length (capture_of c) → length o < n → wrote (Err (broken Rule.Short 0)) o ≡ write_of c o
  unfolding write_of
  write_short n e q h = rw (e, lt-leb (length (capture_of c)) (length o) (omega arith))

  pub write_so : (n : ℕ) (x : List ℕ) → fits c.parts ≡ true → n ≡ length (capture_of c) → n ≤ length o → x ≡ placed o 0 (capture_of c)
      → wrote (Ok n) x ≡ write_of c o
  unfolding write_of
  write_so n x e q h p = rw (e, le-leb (length (capture_of c)) (length o) (omega arith), p, q)
