-- The laws of `slot`: within W lanes of R registers no two stand at one place, and all stand below W×R. All else goes by these.
use mathlib.Core.Path.{◌≡◌, sym, ap, ◌∙◌}
use Prim.Native.Nat.{ℕ, suc, ◌+◌, ◌*◌, ◌/◌, ◌%◌, ◌^◌, ◌<◌}
use native.Mathlib.Nat.{mul-add-div_right, mul-add-mod_self_right, div-eq_of_lt, mod-eq_of_lt, mul-le-mul_left, mul-le-mul_right}
use native.Mathlib.Nat.{add-zero, suc-mul, lt_of_lt_of_le, le_of_lt}
use native.Mathlib.Omega.{arith}
use lib.Pow.{pow-add}
use lib.ListN.{length}
use mathlib.Core.List.{List}
use Rattle.compute.specs.declared.Shape.{Shape}
use Rattle.compute.specs.Registers.{slot, slot_in, Roomy, Stands}

-- of W rows of R
rows_lt : (W R i r : ℕ) → i < W → r < R → i * R + r < W * R
rows_lt W R i r hi hr = lt_of_lt_of_le {m = suc i * R} (rw suc-mul (omega arith)) (mul-le-mul_right R hi)

pub slot_lt : (W R i r : ℕ) → i < W → r < R → slot W R i r < W * R
unfolding slot
slot_lt = rows_lt

pub slot_inj : (W R i r j s : ℕ) → i < W → r < R → j < W → s < R → slot W R i r ≡ slot W R j s → (i ≡ j) × (r ≡ s)
unfolding slot
slot_inj W R i r j s hi hr hj hs e =
    (sym (lane i r hr) ∙ ap (λ (x : ℕ). x / R) e ∙ lane j s hs, sym (register i r hr) ∙ ap (λ (x : ℕ). x % R) e ∙ register j s hs)
  where
    lane : (i r : ℕ) → r < R → (i * R + r) / R ≡ i
    lane i r h = mul-add-div_right {m = R} (omega arith) i r ∙ ap (λ (x : ℕ). i + x) (div-eq_of_lt h) ∙ add-zero i

    register : (i r : ℕ) → r < R → (i * R + r) % R ≡ r
    register i r h = mul-add-mod_self_right i R r ∙ mod-eq_of_lt h

-- of numbers of k bits it has 2k
pub slot_fits : (k i R r : ℕ) → i < 2 ^ k → R < 2 ^ k → r < 2 ^ k → i * R + r < 2 ^ (k + k)
slot_fits k i R r hi hR hr =
    rw (pow-add 2 k k) (omega (arith, rows_lt (2 ^ k) (2 ^ k) i r hi hr, mul-le-mul_left i (le_of_lt hR)))

-- a register below R stands in a buffer with room
pub standing : {shape : Shape} {regs : List ℕ} {r : ℕ} → Roomy shape regs → r < shape.registers → Stands shape regs r
standing h b = record { narrow = h.narrow; low = b; room = h.room }

-- a register that stands in the buffer
pub slot_in_lem : {shape : Shape} {regs : List ℕ} {r : ℕ} → Stands shape regs r → (i k : ℕ) → k ≡ slot_in shape i r → i < shape.width → k < length regs
slot_in_lem {shape} {regs} {r} h i k e b = omega (arith, e, slot_lt shape.width shape.registers i r b h.low, h.room)
