-- Text that a writer puts: pieces one behind another, and numbers; and the place behind a text is near.
use mathlib.Core.Path.{◌≡◌, refl, sym, ◌∙◌}
use Prim.Native.Nat.{ℕ, ◌+◌, ◌*◌, ◌≤◌, ◌<◌}
use mathlib.Core.List.{List, [], ◌∷◌, ◌++◌}
use native.Mathlib.Omega.{arith}
use lib.ListN.{length, length-append}
use Rattle.numbers.specs.Placed.{Puts}
use Rattle.numbers.proofs.Placing.{puts_join, placed_nil}
use Rattle.io.specs.Digits.{last_digits, IsDigitCount}
use Rattle.listing.specs.declared.writer.Writer.{Writer}
use Rattle.listing.specs.Decimal.{field}
use Rattle.listing.specs.Rooms.{field_bytes}
use Rattle.listing.specs.Text.{space}
use Rattle.listing.specs.Writing.{Wrote}
use Rattle.listing.proofs.Places.{decimal_is, field_long}

-- pieces put one behind another are the whole
pub wrote_join : {A B : List ℕ} {o m n : Writer} → Wrote A o m → Wrote B m n → Wrote (A ++ B) o n
wrote_join {A} {B} a b =
    let l = length-append A B in
    record {
      same_buffer = b.same_buffer ∙ a.same_buffer;
      puts = λ h. let p = a.puts (omega arith) in puts_join p (b.puts (omega (arith, p.place)));
    }

pub wrote_same : {A B : List ℕ} {o n : Writer} → A ≡ B → Wrote A o n → Wrote B o n
wrote_same {o = o} {n = n} e a = rw e at a

wrote_none : (o : Writer) → Wrote [] o o
wrote_none o = record { same_buffer = refl; puts = λ h. record { place = omega arith; holds = sym (placed_nil o.out.now o.at) } }

-- a number's digits, and behind them its end
pub field_wrote : {o m n : Writer} {text : List ℕ} {i k end : ℕ} → IsDigitCount 10 1 i k → i < 18446744073709551616 → text ≡ last_digits 10 k i
    → Wrote text o m → Wrote (end ∷ []) m n → Wrote (field i end) o n
unfolding field
field_wrote {i = i} {k = k} h l e a b = wrote_join (wrote_same (e ∙ decimal_is i k h l) a) b

-- and so at any place of a buffer
pub field_puts : {o o1 o2 text : List ℕ} {at q r n k end : ℕ} → IsDigitCount 10 1 n k → n < 18446744073709551616 → text ≡ last_digits 10 k n
    → Puts o at text q o1 → Puts o1 q (end ∷ []) r o2 → Puts o at (field n end) r o2
unfolding field
field_puts {n = n} {k = k} h l e a b = puts_join (rw (e ∙ decimal_is n k h l) at a) b

-- ---- the place behind a text that is not long

pub puts_near : {o o1 A : List ℕ} {at r : ℕ} (n : ℕ) → length A ≤ n → Puts o at A r o1 → r ≤ at + n
puts_near n h a = let p = a.place in omega arith

pub field_near : {o o1 : List ℕ} {at r : ℕ} (n end : ℕ) → Puts o at (field n end) r o1 → r ≤ at + field_bytes
field_near n end = puts_near field_bytes (field_long n end)

pub two_near : {o o1 : List ℕ} {at r : ℕ} (m n : ℕ) → Puts o at (field m space ++ field n space) r o1 → r ≤ at + field_bytes * 2
two_near m n a =
    let l = length-append (field m space) (field n space) in
    let b = field_long m space in
    let c = field_long n space in
    puts_near (field_bytes * 2) (omega arith) a

-- ---- turns of a loop that puts a text piece by piece

-- of a text, `rest` is left to be put
pub record Left (text rest : List ℕ) (o m : Writer) : Type 0 where
  pub then : (n : Writer) → Wrote rest m n → Wrote text o n

pub left_start : {text : List ℕ} {o : Writer} → Left text text o o
left_start = record { then = λ n w. w }

pub left_turn : {text rest A B : List ℕ} {o m n : Writer} → Left text rest o m → rest ≡ A ++ B → Wrote A m n → Left text B o n
left_turn g e p = record { then = λ z w. g.then z (wrote_same (sym e) (wrote_join p w)) }

pub left_end : {text rest : List ℕ} {o m : Writer} → Left text rest o m → rest ≡ [] → Wrote text o m
left_end {m = m} g e = g.then m (wrote_same (sym e) (wrote_none m))
