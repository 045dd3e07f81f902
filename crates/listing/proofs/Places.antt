-- Decimal digits: the fewest digits that hold a number are those of `places`, so what `io::decimal` puts is `decimal`.
use mathlib.Core.Path.{◌≡◌, refl, ap}
use Prim.Native.Nat.{ℕ, zero, suc, ◌+◌, ◌*◌, ◌-◌, ◌/◌, ◌%◌, ◌^◌, ◌≤◌, ◌<◌}
use mathlib.Core.Bool.{Bool, true, false, cond}
use mathlib.Core.List.{[], ◌∷◌}
use native.Mathlib.Omega.{arith}
use native.Mathlib.Nat.{pow-suc, add-zero, add-suc}
use mathlib.Core.Logic.{⊎_elim}
use Rattle.ground.proofs.Tests.{true_or_false}
use lib.Dec.{ltb}
use lib.ListN.{length, length-append}
use borrow.Author.Tests.{lt-ltb, le-ltb, ltb-true, ltb-false}
use Rattle.io.specs.Digits.{hex_digit_ascii, last_digits, IsDigitCount}
use Rattle.listing.specs.Decimal.{places, most_places, decimal, field}

length_digits : (b k n : ℕ) → length (last_digits b k n) ≡ k
length_digits b zero n = refl
length_digits b (suc k) n = let a = length-append (last_digits b k (n / b)) (hex_digit_ascii (n % b) ∷ []) in let i = length_digits b k (n / b) in omega arith

places_most : (most n : ℕ) → places most n ≤ most
unfolding places
places_most zero n = omega arith
places_most (suc most) n = choose (ltb n 10) (places_most most (n / 10))
  where
    choose : (t : Bool) → places most (n / 10) ≤ most → cond t 1 (1 + places most (n / 10)) ≤ suc most
    choose true h = omega arith
    choose false h = omega arith

pub field_long : (n end : ℕ) → length (field n end) ≤ 21
unfolding field decimal
field_long n end =
    let k = places most_places n in
    let a = length-append (last_digits 10 k n) (end ∷ []) in
    let b = length_digits 10 k n in
    let c = places_most most_places n in
    omega arith

ten_pow : (i : ℕ) → 1 ≤ 10 ^ i
ten_pow zero = omega arith
ten_pow (suc i) = let h = ten_pow i in let e = pow-suc 10 i in omega arith

fewest_places : (most n k : ℕ) → 1 ≤ k → k ≤ most → n < 10 ^ k → (1 < k → 10 ^ (k - 1) ≤ n) → k ≡ places most n
unfolding places
fewest_places zero n k h1 h2 h3 h4 = absurd (omega arith)
fewest_places (suc most) n zero h1 h2 h3 h4 = absurd (omega arith)
fewest_places (suc most) n (suc zero) h1 h2 h3 h4 = simp (lt-ltb n 10 h3)
fewest_places (suc most) n (suc (suc j)) h1 h2 h3 h4 =
    let p = ten_pow j in
    let e1 : 10 ^ suc j ≡ 10 ^ j * 10 = pow-suc 10 j in
    let e2 : 10 ^ suc (suc j) ≡ 10 ^ suc j * 10 = pow-suc 10 (suc j) in
    let s : suc (suc j) - 1 ≡ suc j = omega arith in
    let low : 10 ^ suc j ≤ n = rw s at (h4 (omega arith)) in
    let d : suc j - 1 ≡ j = omega arith in
    let more : 1 < suc j → 10 ^ (suc j - 1) ≤ n / 10 = λ q. rw d (omega arith) in
    let ih : suc j ≡ places most (n / 10) = fewest_places most (n / 10) (suc j) (omega arith) (omega arith) (omega arith) more in
    simp (le-ltb n 10 (omega arith)) (omega arith)

ten_more : (i d : ℕ) → 10 ^ i ≤ 10 ^ (i + d)
ten_more i zero = rw add-zero (omega arith)
ten_more i (suc d) = let h = ten_more i d in let e : 10 ^ (i + suc d) ≡ 10 ^ (i + d) * 10 = rw add-suc (pow-suc 10 (i + d)) in omega arith

-- a number of 64 bits has at most 20 digits
pub fewest_most : (n k : ℕ) → IsDigitCount 10 1 n k → n < 18446744073709551616 → k ≤ most_places
fewest_most n k h l =
    ⊎_elim
    (λ (a : ltb most_places k ≡ true).
    let b = ltb-true most_places k a in
    let p : 10 ^ (k - 1) ≤ n = h.2 (omega arith) in
    let m = ten_more 20 (k - 21) in
    let e : 20 + (k - 21) ≡ k - 1 = omega arith in
    let q : 10 ^ 20 ≤ 10 ^ (k - 1) = rw e at m in
    absurd (omega arith))
    (λ (a : ltb most_places k ≡ false). ltb-false most_places k a)
    (true_or_false (ltb most_places k))

-- what the kit's digits come to
pub decimal_is : (n k : ℕ) → IsDigitCount 10 1 n k → n < 18446744073709551616 → last_digits 10 k n ≡ decimal n
unfolding decimal
decimal_is n k h l = ap (λ (m : ℕ). last_digits 10 m n) (fewest_places most_places n k h.0 (fewest_most n k h l) h.1 h.2)
