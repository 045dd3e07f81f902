-- Digits: the character of one; and how many a number has, found by taking them off.
use mathlib.Core.Path.{◌≡◌}
use mathlib.Core.Logic.{dite}
use Prim.Native.Nat.{ℕ, zero, suc, ◌+◌, ◌-◌, ◌/◌, ◌^◌, ◌≤◌, ◌<◌}
use native.Mathlib.Decide.{dec_lt}
use native.Mathlib.Nat.{pow-suc, zero-add}
use native.Mathlib.Omega.{arith}
use borrow.Author.Tests.{lt-ltb, le-ltb}
use Rattle.texts.specs.Numerals.{glyph, places, hex_from}

-- ---- one digit

pub glyph_small : (d : ℕ) → d < 10 → 48 + d ≡ glyph d
glyph_small d h = rw (lt-ltb d 10 h)

pub glyph_large : (d : ℕ) → 10 ≤ d → 55 + d ≡ glyph d
glyph_large d h = rw (le-ltb d 10 h)

pub glyph_byte : (d : ℕ) → d < 16 → glyph d < 256
glyph_byte d h =
    dite (dec_lt d 10) (λ l. rw (lt-ltb d 10 l) (omega arith)) (λ l. rw (le-ltb d 10 (omega arith)) (omega arith))

-- ---- how many decimal digits

pub record Taken (n left spare : ℕ) : Type 0 where
  pub few : spare ≤ 6
  pub small : left < 10 ^ suc spare
  pub whole : (6 - spare) + places (suc spare) left ≡ places 7 n

pub taken_none : (n : ℕ) → n < hex_from → Taken n n 6
taken_none n h = record { few = omega arith; small = h; whole = zero-add (places 7 n) }

module _ {n left : ℕ} where
  pub taken_on : (spare : ℕ) → Taken n left spare → 9 < left → Taken n (left / 10) (spare - 1)
  unfolding places
  taken_on zero t h = absurd (omega (arith, t.small))
  taken_on (suc k) t h =
      let z : suc k - 1 ≡ k = omega arith in
      let few = t.few in
      let s = t.small in
      let w : (6 - suc k) + places (suc (suc k)) left ≡ places 7 n = t.whole in
      let one : places (suc (suc k)) left ≡ suc (places (suc k) (left / 10)) = rw (le-ltb left 10 (omega arith)) in
      rw z (record { few = omega arith; small = omega (arith, pow-suc 10 (suc k)); whole = omega arith })

  pub taken_some : (spare : ℕ) → Taken n left spare → 9 < left → 0 < spare
  taken_some zero t h = absurd (omega (arith, t.small))
  taken_some (suc k) t h = omega arith

  pub taken_all : {spare : ℕ} → Taken n left spare → left ≤ 9 → 7 - spare ≡ places 7 n
  unfolding places
  taken_all {spare} t h =
      let few = t.few in
      let w = t.whole in
      let one : places (suc spare) left ≡ 1 = rw (lt-ltb left 10 (omega arith)) in
      omega arith
