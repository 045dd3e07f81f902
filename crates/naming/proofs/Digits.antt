-- Digits found from the last to the first, and how many a number has.
use mathlib.Core.Path.{◌≡◌, refl, sym, ap, ◌∙◌}
use mathlib.Core.List.{List, [], ◌∷◌, ◌++◌, append_assoc}
use mathlib.Core.Logic.{dite}
use Prim.Native.Nat.{ℕ, zero, suc, ◌+◌, ◌-◌, ◌*◌, ◌/◌, ◌%◌, ◌^◌, ◌≤◌, ◌<◌, max}
use native.Mathlib.Decide.{dec_lt}
use native.Mathlib.Nat.{pow-zero, pow-suc, pow-le-pow_right, mod-lt}
use native.Mathlib.Omega.{arith}
use lib.ListN.{length, get_or, take, drop, set}
use lib.Seq.{length-take-le}
use borrow.Author.Tests.{lt-ltb, le-ltb}
use Rattle.std.proofs.lemmas.List.{drop-set}
use Rattle.ground.specs.Lists.{tabulate}
use Rattle.ground.proofs.Lists.{get_d_tabulate}
use Rattle.texts.specs.Bytes.{ascii}
use Rattle.texts.specs.Numerals.{glyph, digits, places, hex_from, numeral}

-- ---- how many decimal digits

ten_power : (k : ℕ) → 1 ≤ 10 ^ k
ten_power zero = omega (arith, pow-zero 10)
ten_power (suc k) = omega (arith, pow-suc 10 k, ten_power k)

places_from : (most k n : ℕ) → k < most → 10 ^ k ≤ max n 1 → max n 1 < 10 * 10 ^ k → k + 1 ≡ places most n
unfolding places
places_from zero k n h a b = absurd (omega arith)
places_from (suc most) zero n h a b = rw (lt-ltb n 10 (omega (arith, pow-zero 10)))
places_from (suc most) (suc k) n h a b =
    let p = pow-suc 10 k in
    let one = ten_power k in
    let ih = places_from most k (n / 10) (omega arith) (omega arith) (omega arith) in
    rw (le-ltb n 10 (omega arith)) (omega arith)

-- one more than its logarithm, which is 0 of 0
pub log_places : (k n : ℕ) → n < hex_from → 10 ^ k ≤ max n 1 → max n 1 < 10 * 10 ^ k → k + 1 ≡ places 7 n
log_places k n h a b =
    dite (dec_lt k 7)
    (λ l. places_from 7 k n l a b)
    (λ l. let more : 7 ≤ k = omega arith in let p : 10 ^ 7 ≤ 10 ^ k = pow-le-pow_right (omega arith) more in absurd (omega arith))

-- ---- digits

-- the table of glyphs
glyphs : tabulate 16 glyph ≡ ascii "0123456789ABCDEF"
unfolding tabulate
glyphs = refl

glyph_at : (d : ℕ) → d < 16 → get_or (ascii "0123456789ABCDEF") d 0 ≡ glyph d
glyph_at d h = ap (λ (t : List ℕ). get_or t d 0) (sym glyphs) ∙ get_d_tabulate 16 glyph d h

-- the next digit, put before those found
pub digits_turn : (b i left : ℕ) (out all : List ℕ) → 0 < b → b ≤ 16 → 0 < i → i ≤ length out → digits b i left ++ drop i out ≡ all
    → digits b (i - 1) (left / b) ++ drop (i - 1) (set out (i - 1) (get_or (ascii "0123456789ABCDEF") (left % b) 0)) ≡ all
unfolding digits
digits_turn b zero left out all p q h l e = absurd (omega arith)
digits_turn b (suc k) left out all p q h l e =
    let z : suc k - 1 ≡ k = omega arith in
    let n : k + 1 ≡ suc k = omega arith in
    let g = glyph_at (left % b) (omega (arith, mod-lt left p)) in
    let d : drop k (set out k (glyph (left % b))) ≡ glyph (left % b) ∷ drop (suc k) out = rw n at (drop-set out k (glyph (left % b)) (omega arith)) in
    rw (z, g, d) (sym (append_assoc (digits b k (left / b)) (glyph (left % b) ∷ []) (drop (suc k) out)) ∙ e)

pub digits_end : (b i left : ℕ) (out all : List ℕ) → i ≤ 0 → digits b i left ++ drop i out ≡ all → out ≡ all
unfolding digits
digits_end b zero left out all h e = e
digits_end b (suc i) left out all h e = absurd (omega arith)

-- ---- numerals

pub decimal_is : {t : List ℕ} (n k : ℕ) (o : List ℕ) → n < hex_from → k ≡ places 7 n → k ≤ length o → t ≡ digits 10 (length (take k o)) n
    → t ≡ numeral n
unfolding numeral
decimal_is n k o h e l d =
    rw (lt-ltb n hex_from h) (d ∙ ap (λ (m : ℕ). digits 10 m n) (length-take-le k o l ∙ e))

pub hex_is : {t : List ℕ} (n : ℕ) → hex_from ≤ n → t ≡ digits 16 8 n → ascii "0x" ++ t ≡ numeral n
unfolding numeral
hex_is n h d = rw (le-ltb n hex_from h, d)

-- one digit
pub digit_is : (n : ℕ) → n < 10 → get_or (ascii "0123456789ABCDEF") n 0 ∷ [] ≡ numeral n
unfolding numeral places digits
digit_is n h =
    let m : n % 10 ≡ n = omega arith in
    rw (lt-ltb n hex_from (omega arith), lt-ltb n 10 h, m) (ap (λ (d : ℕ). d ∷ []) (glyph_at n (omega arith)))
