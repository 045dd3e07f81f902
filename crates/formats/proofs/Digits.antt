-- A number in w bytes, for any w.
use mathlib.Core.Path.{◌≡◌, refl, sym, ap}
use Prim.Native.Nat.{ℕ, zero, suc, ◌+◌, ◌*◌, ◌/◌, ◌%◌, ◌≤◌, ◌<◌}
use mathlib.Core.List.{List, [], ◌∷◌, ◌++◌}
use native.Mathlib.Omega.{arith}
use lib.ListN.{length, drop}
use borrow.Author.Tests.{ltb-true, lt-ltb}
use Rattle.numbers.specs.Numbers.{Bytes}
use Rattle.formats.specs.Format.{bound, bytes_in, value_in, number}
use Rattle.formats.proofs.Lawful.{Lawful}

pub length-bytes_in : (w n : ℕ) → length (bytes_in w n) ≡ w
unfolding bytes_in
length-bytes_in zero n = refl
length-bytes_in (suc w) n = ap suc (length-bytes_in w (n / 256))

pub value_back : (w n : ℕ) (t : List ℕ) → n < bound w → value_in w (bytes_in w n ++ t) ≡ n
unfolding bound bytes_in value_in
value_back zero n t h = omega arith
value_back (suc w) n t h = let ih = value_back w (n / 256) t (omega arith) in omega arith

pub value_front : (w : ℕ) (s t : List ℕ) → w ≤ length s → value_in w (s ++ t) ≡ value_in w s
unfolding value_in
value_front zero s t h = refl
value_front (suc w) [] t h = absurd (omega arith)
value_front (suc w) (x ∷ s) t h = ap (λ (n : ℕ). x + 256 * n) (value_front w s t (omega arith))

pub value_held : (w : ℕ) (s : List ℕ) → Bytes s → w ≤ length s → bytes_in w (value_in w s) ++ drop w s ≡ s
unfolding bytes_in value_in
value_held zero s by h = refl
value_held (suc w) [] by h = absurd (omega arith)
value_held (suc w) (x ∷ s) by h =
    let b : x < 256 = by 0 in
    let r : (x + 256 * value_in w s) % 256 ≡ x = omega arith in
    let q : (x + 256 * value_in w s) / 256 ≡ value_in w s = omega arith in
    rw (r, q) (ap (◌∷◌ x) (value_held w s (λ i. by (suc i)) (omega arith)))

pub value_within : (w : ℕ) (s : List ℕ) → Bytes s → value_in w s < bound w
unfolding bound value_in
value_within zero s by = omega arith
value_within (suc w) [] by = let ih = value_within w [] by in omega arith
value_within (suc w) (x ∷ s) by = let b : x < 256 = by 0 in let ih = value_within w s (λ i. by (suc i)) in omega arith

pub number_lawful : (w : ℕ) → Lawful (number w)
unfolding number
number_lawful w =
    record {
      back = λ n t h. value_back w n t (ltb-true n (bound w) h);
      taken = λ n t h. sym (length-bytes_in w n);
      front = value_front w;
      still = λ s t h. refl;
      alone = λ s t h. (sym (value_front w s t h), refl);
      held = value_held w;
      within = λ s by. lt-ltb (value_in w s) (bound w) (value_within w s by);
    }
