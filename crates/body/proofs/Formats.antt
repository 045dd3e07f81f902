-- The formats of a body are lawful, and a fault kind and a block always have one length.
use mathlib.Core.Path.{refl, subst}
use Prim.Native.Nat.{ℕ}
use native.Mathlib.Omega.{arith}
use Rattle.formats.proofs.Lawful.{Lawful}
use Rattle.formats.proofs.Digits.{number_lawful}
use Rattle.formats.proofs.Combined.{both_lawful, counted_lawful, seen_lawful}
use Rattle.formats.proofs.Sizes.{Takes, number_takes, both_takes, seen_takes}
use Rattle.body.specs.Body.{fault_format, block_format, body_format}
use Rattle.body.specs.Layout.{fault_bytes, block_bytes}

fault_lawful : (w : ℕ) → Lawful (fault_format w)
unfolding fault_format
fault_lawful w = seen_lawful _ _ (both_lawful (number_lawful 4) (number_lawful w)) (λ f. refl) (λ t. refl)

block_lawful : (w : ℕ) → Lawful (block_format w)
unfolding block_format
block_lawful w =
    let n = number_lawful 4 in
    let s = number_lawful w in
    seen_lawful _ _ (both_lawful n (both_lawful n (both_lawful s (both_lawful s (both_lawful s s))))) (λ b. refl) (λ t. refl)

pub body_lawful : (w : ℕ) → Lawful (body_format w)
unfolding body_format
body_lawful w =
    let n = number_lawful 4 in
    let s = number_lawful w in
    seen_lawful _ _
    (both_lawful n (both_lawful n (both_lawful (counted_lawful (fault_lawful w)) (both_lawful s (both_lawful s (counted_lawful (block_lawful w)))))))
    (λ p. refl) (λ t. refl)

pub fault_takes : (w : ℕ) → Takes (fault_format w) (fault_bytes w)
unfolding fault_format
fault_takes w = seen_takes _ _ (both_takes (number_takes 4) (number_takes w))

pub block_takes : (w : ℕ) → Takes (block_format w) (block_bytes w)
unfolding block_format
block_takes w =
    let n = number_takes 4 in
    let s = number_takes w in
    subst (λ (k : ℕ). Takes (block_format w) k) (omega arith)
    (seen_takes _ _ (both_takes n (both_takes n (both_takes s (both_takes s (both_takes s s))))))
