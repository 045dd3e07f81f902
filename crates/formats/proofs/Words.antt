-- A number in four bytes is written and read as the crate `numbers` has it.
use mathlib.Core.Path.{◌≡◌, ap, ◌∙◌}
use Prim.Native.Nat.{ℕ, ◌+◌}
use mathlib.Core.List.{List}
use native.Mathlib.Omega.{arith}
use native.Mathlib.Nat.{div-div-eq-div-mul, add-zero}
use lib.ListN.{get_or, drop}
use lib.Seq.{get_or-drop, drop-drop}
use Rattle.numbers.specs.Numbers.{bytes_of, number_at}
use Rattle.formats.specs.Format.{bytes_in, value_in}

pub four_bytes : (n : ℕ) → bytes_in 4 n ≡ bytes_of n
unfolding bytes_in bytes_of
four_bytes n = rw (div-div-eq-div-mul n 256 256, div-div-eq-div-mul n 65536 256)

pub four_value : (s : List ℕ) (p : ℕ) → value_in 4 (drop p s) ≡ number_at s p
unfolding value_in number_at
four_value s p =
    let first : (q : ℕ) → get_or (drop q s) 0 0 ≡ get_or s q 0 = λ q. get_or-drop q s 0 0 ∙ ap (λ (k : ℕ). get_or s k 0) (add-zero q) in
    let e2 : p + 1 + 1 ≡ p + 2 = omega arith in
    let e3 : p + 2 + 1 ≡ p + 3 = omega arith in
    rw (drop-drop 1 p s, drop-drop 1 (p + 1) s, e2, drop-drop 1 (p + 2) s, e3, first p, first (p + 1), first (p + 2), first (p + 3)) (omega arith)
