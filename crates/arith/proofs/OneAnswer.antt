-- Each promise of the crate allows one answer. `two_once` is the law of each function that promises what one operation of RS1 and RS2 gives,
-- `one_once` of each that promises what one of RS1 alone gives.
use Rattle.std.proofs.Common.{◌≡◌, ℕ, Bool, ℤ, sym, ◌∙◌}
use Rattle.instructions.specs.declared.instr.TwoOp.{TwoOp}
use Rattle.instructions.specs.declared.instr.OneOp.{OneOp}
use Rattle.arith.specs.Arith.{signed, register, less, address_of, two_of, one_of}

-- add, sub, mul, mulhi, div, rem, udiv, urem, min, max, shl, shr, sar
pub two_once : (op : TwoOp) (m n r q : ℕ) → r ≡ two_of op m n → q ≡ two_of op m n → r ≡ q
two_once op m n r q a b = a ∙ sym b

-- neg, abs, ones
pub one_once : (op : OneOp) (n r q : ℕ) → r ≡ one_of op n → q ≡ one_of op n → r ≡ q
one_once op n r q a b = a ∙ sym b

pub address_once : (base offset r q : ℕ) → r ≡ address_of base offset → q ≡ address_of base offset → r ≡ q
address_once base offset r q a b = a ∙ sym b

pub less_once : (m n : ℕ) (r q : Bool) → r ≡ less m n → q ≡ less m n → r ≡ q
less_once m n r q a b = a ∙ sym b

pub to_signed_once : (n : ℕ) (r q : ℤ) → r ≡ signed n → q ≡ signed n → r ≡ q
to_signed_once n r q a b = a ∙ sym b

pub to_register_once : (z : ℤ) (r q : ℕ) → r ≡ register z → q ≡ register z → r ≡ q
to_register_once z r q a b = a ∙ sym b
