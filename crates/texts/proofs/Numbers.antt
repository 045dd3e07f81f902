-- Numerals: a number below 2^32 is read back from its own, which is a word of at most ten bytes.
use mathlib.Core.Path.{◌≡◌, refl, ◌∙◌}
use mathlib.Core.Bool.{Bool, true, false, cond}
use mathlib.Core.List.{List, [], ◌∷◌, ◌++◌}
use mathlib.Core.Logic.{dite}
use Prim.Native.Nat.{ℕ, zero, suc, ◌+◌, ◌*◌, ◌/◌, ◌%◌, ◌^◌, ◌≤◌, ◌<◌}
use native.Mathlib.Decide.{dec_lt}
use native.Mathlib.Nat.{pow-zero, pow-suc, mod-lt, div-lt_iff_lt-mul, div-add-mod'}
use native.Mathlib.Omega.{arith}
use lib.Dec.{ltb}
use lib.ListN.{length, length-append}
use borrow.Author.Tests.{lt-ltb, le-ltb, le-leb, ne_eqb}
use Rattle.ground.specs.Tests.{all_of}
use Rattle.ground.proofs.Tests.{all_append}
use Rattle.texts.specs.Bytes.{ascii, in_word}
use Rattle.texts.specs.Numerals.{glyph, digits, places, hex_from, numeral, digit_of, behind, number_in}

-- ---- one digit

digit_back : (d : ℕ) → d < 16 → digit_of (glyph d) ≡ d
digit_back d h =
    dite (dec_lt d 10)
    (λ l. rw (lt-ltb d 10 l, lt-ltb (48 + d) 65 (omega arith)) (omega arith))
    (λ l. rw (le-ltb d 10 (omega arith), le-ltb (55 + d) 65 (omega arith)) (omega arith))

digit_word : (d : ℕ) → d < 16 → in_word (glyph d) ≡ true
digit_word d h =
    dite (dec_lt d 10)
    (λ l. rw (lt-ltb d 10 l, le-leb 48 (48 + d) (omega arith), ne_eqb (48 + d) 91 (λ e. omega arith), ne_eqb (48 + d) 93 (λ e. omega arith)))
    (λ l. rw (le-ltb d 10 (omega arith), le-leb 48 (55 + d) (omega arith), ne_eqb (55 + d) 91 (λ e. omega arith), ne_eqb (55 + d) 93 (λ e. omega arith)))

-- ---- digits

pub length_digits : (b k n : ℕ) → length (digits b k n) ≡ k
unfolding digits
length_digits b zero n = refl
length_digits b (suc k) n = omega (arith, length-append (digits b k (n / b)) (glyph (n % b) ∷ []), length_digits b k (n / b))

behind_more : (b v : ℕ) (t : List ℕ) (c : ℕ) → behind b v (t ++ (c ∷ [])) ≡ behind b v t * b + digit_of c
unfolding behind
behind_more b v [] c = refl
behind_more b v (a ∷ t) c = behind_more b (v * b + digit_of a) t c

module _ (b : ℕ) (some : 0 < b) (few : b ≤ 16) where
  digit_small : (n : ℕ) → n % b < 16
  digit_small n = omega (arith, mod-lt n some)

  -- what holds of every digit holds of digits
  pub digits_all : (t : ℕ → Bool) → ((d : ℕ) → d < 16 → t (glyph d) ≡ true) → (k n : ℕ) → all_of t (digits b k n) ≡ true
  unfolding digits all_of
  digits_all t h zero n = refl
  digits_all t h (suc k) n = all_append t (digits b k (n / b)) (glyph (n % b) ∷ []) (digits_all t h k (n / b)) (rw (h (n % b) (digit_small n)) refl)

  digits_word : (k n : ℕ) → all_of in_word (digits b k n) ≡ true
  digits_word k n = digits_all in_word digit_word k n

  -- the digits of a number that has no more give it back
  digits_back : (k n : ℕ) → n < b ^ k → behind b 0 (digits b k n) ≡ n
  unfolding digits behind
  digits_back zero n h = omega (arith, pow-zero b)
  digits_back (suc k) n h =
      let less : n / b < b ^ k = (div-lt_iff_lt-mul some).1 (rw pow-suc at h) in
      behind_more b 0 (digits b k (n / b)) (glyph (n % b))
      ∙ rw (digits_back k (n / b) less, digit_back (n % b) (digit_small n)) (div-add-mod' n b)

-- ---- how many decimal digits

places_hold : (most n : ℕ) → n < 10 ^ most → n < 10 ^ places most n
unfolding places
places_hold zero n h = h
places_hold (suc most) n h =
    dite (dec_lt n 10)
    (λ l. rw (lt-ltb n 10 l) l)
    (λ l.
    let less : n / 10 < 10 ^ places most (n / 10) = places_hold most (n / 10) (omega (arith, pow-suc 10 most)) in
    rw (le-ltb n 10 (omega arith)) (omega (arith, pow-suc 10 (places most (n / 10)))))

-- no more than needed
pub places_few : (most k n : ℕ) → n < 10 ^ suc k → places most n ≤ suc k
unfolding places
places_few zero k n h = omega arith
places_few (suc most) zero n h = rw (lt-ltb n 10 h) (omega arith)
places_few (suc most) (suc k) n h =
    dite (dec_lt n 10)
    (λ l. rw (lt-ltb n 10 l) (omega arith))
    (λ l.
    let few : places most (n / 10) ≤ suc k = places_few most k (n / 10) (omega (arith, pow-suc 10 (suc k))) in
    rw (le-ltb n 10 (omega arith)) (omega arith))

-- ---- numerals

pub numeral_word : (n : ℕ) → all_of in_word (numeral n) ≡ true
unfolding numeral all_of
numeral_word n = choose (ltb n hex_from)
  where
    choose : (t : Bool) → all_of in_word (cond t (digits 10 (places 7 n) n) (ascii "0x" ++ digits 16 8 n)) ≡ true
    choose true = digits_word 10 (omega arith) (omega arith) (places 7 n) n
    choose false = digits_word 16 (omega arith) (omega arith) 8 n

pub numeral_back : (n : ℕ) → n < 2 ^ 32 → number_in (numeral n) ≡ n
unfolding numeral number_in
numeral_back n h =
    dite (dec_lt n hex_from)
    (λ l.
    let few : places 7 n ≤ 7 = places_few 7 6 n l in
    rw (lt-ltb n hex_from l, length_digits 10 (places 7 n) n, ne_eqb (places 7 n) 10 (λ e. omega arith))
    (digits_back 10 (omega arith) (omega arith) (places 7 n) n (places_hold 7 n l)))
    (λ l.
    rw (le-ltb n hex_from (omega arith), length_digits 16 8 n) (digits_back 16 (omega arith) (omega arith) 8 n h))

-- below 10^k it has at most k bytes, k from 1
pub numeral_few : (k n : ℕ) → n < 10 ^ suc k → n < hex_from → length (numeral n) ≤ suc k
unfolding numeral
numeral_few k n h l = rw (lt-ltb n hex_from l, length_digits 10 (places 7 n) n) (places_few 7 k n h)

pub numeral_long : (n : ℕ) → length (numeral n) ≤ 10
unfolding numeral
numeral_long n =
    dite (dec_lt n hex_from)
    (λ l. rw (lt-ltb n hex_from l, length_digits 10 (places 7 n) n) (omega (arith, places_few 7 6 n l)))
    (λ l. rw (le-ltb n hex_from (omega arith), length_digits 16 8 n) (omega arith))
