-- Each promise of the crate allows one answer. That of `two` and `one` is said by `arith` `OneAnswer.two_once` and `one_once`.
use mathlib.Core.Path.{◌≡◌, sym, ◌∙◌}
use mathlib.Core.Bool.{Bool}
use Prim.Native.Nat.{ℕ}
use Rattle.instructions.specs.declared.instr.TwoOp.{TwoOp}
use Rattle.instructions.specs.declared.instr.CompareOp.{CompareOp}
use Rattle.instructions.specs.declared.instr.AtomicOp.{AtomicOp}
use Rattle.arith.specs.Arith.{divides, compare_of, atomic_of, swap_of}

pub divides_once : (op : TwoOp) (r q : Bool) → r ≡ divides op → q ≡ divides op → r ≡ q
divides_once op r q a b = a ∙ sym b

pub compare_once : (op : CompareOp) (m n : ℕ) (r q : Bool) → r ≡ compare_of op m n → q ≡ compare_of op m n → r ≡ q
compare_once op m n r q a b = a ∙ sym b

pub atomic_once : (op : AtomicOp) (old v r q : ℕ) → r ≡ atomic_of op old v → q ≡ atomic_of op old v → r ≡ q
atomic_once op old v r q a b = a ∙ sym b

pub swap_once : (old expected desired r q : ℕ) → r ≡ swap_of old expected desired → q ≡ swap_of old expected desired → r ≡ q
swap_once old expected desired r q a b = a ∙ sym b
