-- A sum that reaches 2^32 wraps round to below its offset, and no other sum is below its offset: so the wrapped sum tells the fault.
use mathlib.Core.Path.{◌≡◌, sym, ap, ◌∙◌}
use mathlib.Core.Bool.{false, cond}
use mathlib.Core.Logic.{dite}
use Prim.Native.Nat.{ℕ, ◌+◌, ◌^◌, ◌<◌}
use native.Mathlib.Decide.{dec_lt}
use native.Mathlib.Omega.{arith}
use lib.Dec.{ltb}
use borrow.Author.Tests.{leb-false, le-leb, lt-leb, lt-ltb, le-ltb}
use Rattle.instructions.specs.declared.instr.Space.{Space}
use Rattle.arith.specs.Arith.{address_of}
use Rattle.faulting.specs.Causes.{is_over, address_fault, sum_fault, base_of}

pub wrapped_over : (base offset : ℕ) → base < 2 ^ 32 → offset < 2 ^ 32 → ltb (address_of base offset) offset ≡ is_over base offset
wrapped_over base offset b o =
    dite (dec_lt (base + offset) (2 ^ 32))
    (λ l. le-ltb (address_of base offset) offset (omega arith) ∙ sym (lt-leb (2 ^ 32) (base + offset) l))
    (λ l. lt-ltb (address_of base offset) offset (omega arith) ∙ sym (le-leb (2 ^ 32) (base + offset) (omega arith)))

-- where a lane does not fault so, its address is the plain sum
pub plain_sum_lem : (base offset : ℕ) → is_over base offset ≡ false → address_of base offset ≡ base + offset
plain_sum_lem base offset e = let l = leb-false (2 ^ 32) (base + offset) e in omega (arith, l)

-- an address tells the base that its offset was added to, and the two give it again
pub base_told : (base offset : ℕ) → base < 2 ^ 32 → offset < 2 ^ 32 → base_of (address_of base offset) offset ≡ base
base_told base offset b o = omega arith

pub address_told : (address offset : ℕ) → address < 2 ^ 32 → offset < 2 ^ 32 → address_of (base_of address offset) offset ≡ address
address_told address offset a o = omega arith

pub address_tells : (s : Space) (words address offset : ℕ) → address < 2 ^ 32 → offset < 2 ^ 32
    → sum_fault s words (base_of address offset) offset ≡ cond (is_over (base_of address offset) offset) 6 (address_fault s words address)
address_tells s words address offset a o =
    ap (λ (n : ℕ). cond (is_over (base_of address offset) offset) 6 (address_fault s words n)) (address_told address offset a o)

-- without an offset the base is the address
pub no_offset : (s : Space) (words address : ℕ) → address < 2 ^ 32 → sum_fault s words (base_of address 0) 0 ≡ address_fault s words address
no_offset s words address a =
    let e : base_of address 0 ≡ address = omega arith in
    let f : address_of address 0 ≡ address = omega arith in
    rw e (rw (lt-leb (2 ^ 32) (address + 0) (omega arith)) (ap (address_fault s words) f))
