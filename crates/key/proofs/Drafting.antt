-- What is put piece by piece is put as the whole: one thing and then another, a count and then the things, things and then more.
use mathlib.Core.Path.{◌≡◌, refl, sym, ap, ◌∙◌, subst}
use Prim.Native.Nat.{ℕ, ◌+◌, ◌≤◌, ◌<◌, min}
use mathlib.Core.Bool.{true}
use mathlib.Core.List.{List, [], ◌∷◌, ◌++◌, append_assoc, append-nil, flat_map}
use native.Mathlib.Omega.{arith}
use lib.ListN.{length, get_or, take, drop, length-append}
use lib.Seq.{length-take-le, take_all, take_at}
use borrow.Author.Tests.{lt-ltb}
use Rattle.std.proofs.lemmas.List.{take_more}
use Rattle.std.proofs.lemmas.Grind.{flat_map-append}
use Rattle.ground.specs.Tests.{all_of}
use Rattle.ground.proofs.Bools.{and_both}
use Rattle.ground.proofs.Tests.{all_append}
use Rattle.numbers.specs.Numbers.{bytes_of}
use Rattle.numbers.specs.Placed.{placed}
use Rattle.numbers.proofs.Numerals.{length-bytes_of}
use Rattle.numbers.proofs.Placing.{placed_parts}
use Rattle.formats.specs.Format.{Format, bound, bytes_in, number, both, counted}
use Rattle.formats.proofs.Digits.{length-bytes_in}
use Rattle.formats.proofs.Words.{four_bytes}
use Rattle.key.specs.Putting.{room, Behind, Put, PutAll}

-- there is room for a number below 2^32
pub four_fits : (n : ℕ) → n < 0x100000000 → (number 4).fits n ≡ true
unfolding number bound
four_fits n h = lt-ltb n 0x100000000 h

-- a number, put behind the first `start` bytes of the buffer
pub put_number : (n start end : ℕ) (bytes now : List ℕ) → n < 0x100000000 → length bytes ≡ room → start ≤ room → now ≡ placed bytes start (bytes_of n)
    → end ≡ min room (start + 4) → Put (number 4) n (take start bytes) (take end now)
unfolding number
put_number n start end bytes now h l s p e = record { fits = four_fits n h; stands = stands }
  where
    stands : Behind (bytes_in 4 n) (take start bytes) (take end now)
    stands fit =
        let old = take start bytes in
        let long : length old ≡ start = length-take-le start bytes (omega arith) in
        let four = length-bytes_of n in
        let behind = drop (start + length (bytes_of n)) bytes in
        let parts = placed_parts bytes start (bytes_of n) (omega (arith, length-bytes_in 4 n)) in
        ap (take end) (p ∙ parts ∙ sym (append_assoc old (bytes_of n) behind))
        ∙ take_at (old ++ bytes_of n) behind end (omega (arith, length-append old (bytes_of n), length-bytes_in 4 n))
        ∙ ap (λ (t : List ℕ). old ++ t) (sym (four_bytes n))

-- bytes, and more behind them
behind_join : (a b o m n : List ℕ) → Behind a o m → Behind b m n → Behind (a ++ b) o n
behind_join a b o m n x y h =
    let l = length-append a b in
    let e = x (omega arith) in
    y (omega (arith, ap length e, length-append o a)) ∙ ap (λ (t : List ℕ). t ++ b) e ∙ append_assoc o a b

-- one thing, and another behind it
pub put_both : {A B : Type 0} {F : Format A} {G : Format B} {a : A} {b : B} {o m n : List ℕ} → Put F a o m → Put G b m n → Put (both F G) (a, b) o n
unfolding both
put_both {F = F} {G = G} {a = a} {b = b} p q =
    record { fits = and_both _ _ p.fits q.fits; stands = behind_join (F.write a) (G.write b) _ _ _ p.stands q.stands }

-- a count, and as many things behind it
pub put_counted : {A : Type 0} {F : Format A} {xs : List A} {n : ℕ} {o m r : List ℕ} → n ≡ length xs → Put (number 4) n o m → PutAll F xs m r
    → Put (counted F) xs o r
unfolding counted number
put_counted {F = F} {xs = xs} {o = o} {m = m} e p q =
    let c : Put (number 4) (length xs) o m = subst (λ (k : ℕ). Put (number 4) k o m) e p in
    record { fits = and_both _ _ c.fits q.fits; stands = behind_join (bytes_in 4 (length xs)) (flat_map F.write xs) _ _ _ c.stands q.stands }

-- ---- things one behind another

module _ {A : Type 0} {F : Format A} where
  pub put_none : {o : List ℕ} → PutAll F [] o o
  unfolding flat_map all_of
  put_none {o} = record { fits = refl; stands = λ h. sym (append-nil o) }

  pub put_one : {a : A} {o n : List ℕ} → Put F a o n → PutAll F (a ∷ []) o n
  unfolding flat_map all_of
  put_one {a} {o} {n} p =
      record { fits = and_both _ _ p.fits refl; stands = subst (λ (t : List ℕ). Behind t o n) (sym (append-nil (F.write a))) p.stands }

  pub put_more : {xs ys : List A} {o m n : List ℕ} → PutAll F xs o m → PutAll F ys m n → PutAll F (xs ++ ys) o n
  unfolding flat_map
  put_more {xs} {ys} {o} {m} {n} a b =
      record {
        fits = all_append F.fits xs ys a.fits b.fits;
        stands =
            subst (λ (t : List ℕ). Behind t o n) (sym (flat_map-append F.write xs ys))
            (behind_join (flat_map F.write xs) (flat_map F.write ys) _ _ _ a.stands b.stands);
      }

  -- one more than the k that were put, and all
  pub put_next : (xs : List A) (k : ℕ) (d : A) {o m n : List ℕ} → k < length xs → PutAll F (take k xs) o m → Put F (get_or xs k d) m n
      → PutAll F (take (k + 1) xs) o n
  put_next xs k d h a b = rw (take_more xs k d h) (put_more a (put_one b))

  pub put_all : (xs : List A) (k : ℕ) {o n : List ℕ} → length xs ≤ k → PutAll F (take k xs) o n → PutAll F xs o n
  put_all xs k h a = rw (take_all k xs h) at a
