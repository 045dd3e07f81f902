-- What is put piece by piece is put as the whole: a number and then the rest, a count and then the things, things and then more.
use mathlib.Core.Path.{◌≡◌, refl, sym, ap, ◌∙◌}
use Prim.Native.Nat.{ℕ, ◌+◌, ◌<◌}
use mathlib.Core.Bool.{true}
use mathlib.Core.List.{List, [], ◌∷◌, ◌++◌, append_assoc, append-nil, flat_map}
use native.Mathlib.Omega.{arith}
use lib.ListN.{length}
use borrow.Author.Tests.{lt-ltb}
use Rattle.ground.specs.Tests.{all_of}
use Rattle.ground.proofs.Bools.{and_left, and_right, and_both}
use Rattle.ground.proofs.Tests.{all_append}
use Rattle.numbers.specs.Numbers.{bytes_of}
use Rattle.numbers.specs.Placed.{placed}
use Rattle.numbers.proofs.Placing.{placed_join, placed_nil}
use Rattle.formats.specs.Format.{Format, bound, bytes_in, number, both, counted}
use Rattle.formats.specs.Putting.{Put, PutAll}
use Rattle.formats.proofs.Digits.{length-bytes_in}
use Rattle.formats.proofs.Words.{four_bytes}

-- there is room for a number below 2^32
pub four_fits : (n : ℕ) → n < 0x100000000 → (number 4).fits n ≡ true
unfolding number bound
four_fits n h = lt-ltb n 0x100000000 h

-- a number, and the rest behind it
module _ (n at : ℕ) (o : List ℕ) {q : ℕ} {o₁ o₂ : List ℕ} (e : o₁ ≡ placed o at (bytes_of n)) (next : q ≡ at + 4) where
  number_then : (rest : List ℕ) → o₂ ≡ placed o₁ q rest → o₂ ≡ placed o at (bytes_in 4 n ++ rest)
  number_then rest b =
      placed_join (bytes_in 4 n) rest o at (omega (arith, next, length-bytes_in 4 n)) (e ∙ ap (placed o at) (sym (four_bytes n))) b

  pub put_number : {B : Type 0} {G : Format B} {b : B} → n < 0x100000000 → Put G b o₁ q o₂ → Put (both (number 4) G) (n, b) o at o₂
  unfolding both number
  put_number {G = G} {b = b} h p = record { room = and_both _ _ (four_fits n h) p.room; stands = number_then (G.write b) p.stands }

  -- a count, and as many things behind it
  pub put_counted : {A : Type 0} {F : Format A} {xs : List A} → n ≡ length xs → n < 0x100000000 → PutAll F xs o₁ q o₂ → Put (counted F) xs o at o₂
  unfolding counted number
  put_counted {F = F} {xs = xs} c h p =
      record {
        room = and_both ((number 4).fits (length xs)) _ (rw (← c) (four_fits n h)) p.room;
        stands = rw (← c) (number_then (flat_map F.write xs) p.stands);
      }

-- a number alone
pub put_last : (n at : ℕ) (o : List ℕ) {o₁ : List ℕ} → o₁ ≡ placed o at (bytes_of n) → n < 0x100000000 → Put (number 4) n o at o₁
unfolding number
put_last n at o e h = record { room = four_fits n h; stands = e ∙ ap (placed o at) (sym (four_bytes n)) }

-- ---- things one behind another

pub flat_map_append : {A : Type 0} (f : A → List ℕ) (xs ys : List A) → flat_map f (xs ++ ys) ≡ flat_map f xs ++ flat_map f ys
unfolding flat_map
flat_map_append f [] ys = refl
flat_map_append f (x ∷ xs) ys = ap (λ (l : List ℕ). f x ++ l) (flat_map_append f xs ys) ∙ sym (append_assoc (f x) (flat_map f xs) (flat_map f ys))

module _ {A : Type 0} {F : Format A} where
  pub put_none : {o : List ℕ} {at : ℕ} → PutAll F [] o at o
  unfolding flat_map all_of
  put_none {o} {at} = record { room = refl; stands = sym (placed_nil o at) }

  pub put_one : {a : A} {o o₁ : List ℕ} {at : ℕ} → Put F a o at o₁ → PutAll F (a ∷ []) o at o₁
  unfolding flat_map all_of
  put_one {a} {o} {at = at} p = record { room = and_both _ _ p.room refl; stands = p.stands ∙ ap (placed o at) (sym (append-nil (F.write a))) }

  pub put_more : {xs ys : List A} {o o₁ o₂ : List ℕ} {at q : ℕ} → PutAll F xs o at o₁ → q ≡ at + length (flat_map F.write xs) → PutAll F ys o₁ q o₂
      → PutAll F (xs ++ ys) o at o₂
  put_more {xs} {ys} {o} {at = at} a e b =
      record {
        room = all_append F.fits xs ys a.room b.room;
        stands =
            placed_join (flat_map F.write xs) (flat_map F.write ys) o at e a.stands b.stands
            ∙ ap (placed o at) (sym (flat_map_append F.write xs ys));
      }

-- ---- three things put first, and behind them the rest

pub put_behind : {A B C D : Type 0} (F : Format A) (G : Format B) (H : Format C) {I : Format D} {a : A} {b : B} {c : C} {d : D} {o o₁ o₂ : List ℕ}
    {at q : ℕ} → Put (both F (both G H)) (a, (b, c)) o at o₁ → q ≡ at + length ((both F (both G H)).write (a, (b, c))) → Put I d o₁ q o₂
    → Put (both F (both G (both H I))) (a, (b, (c, d))) o at o₂
unfolding both
put_behind F G H {I} {a} {b} {c} {d} {o} {at = at} x e y =
    let A = F.fits a in
    let B = G.fits b in
    let r = and_right A _ x.room in
    record {
      room = and_both A _ (and_left A _ x.room) (and_both B _ (and_left B _ r) (and_both _ _ (and_right B _ r) y.room));
      stands = placed_join (F.write a ++ (G.write b ++ H.write c)) (I.write d) o at e x.stands y.stands ∙ ap (placed o at) (simp append_assoc);
    }
