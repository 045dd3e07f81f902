-- A loop that makes one number of the lanes: at its turn i it has what the executing lanes below i make.
use mathlib.Core.Path.{◌≡◌, refl, ap, ap₂, ◌∙◌}
use Prim.Native.Nat.{ℕ, ◌+◌, ◌≤◌, ◌<◌}
use native.Mathlib.Omega.{arith}
use native.Mathlib.Numerals.{add-one}
use Rattle.instructions.specs.declared.instr.TwoOp.{TwoOp}
use Rattle.arith.specs.Arith.{two_of}
use Rattle.across.specs.Across.{brought, fold_below}

pub fold_none : (o : TwoOp) (idle t : ℕ) (f : ℕ → ℕ) → idle ≡ fold_below o idle t f 0
unfolding fold_below
fold_none o idle t f = refl

-- a lane's turn, by what it brings and what the code makes of it
pub fold_more : (o : TwoOp) (idle t : ℕ) (f : ℕ → ℕ) (i s v next : ℕ) → s ≡ fold_below o idle t f i → v ≡ brought idle t f i → next ≡ two_of o s v
    → next ≡ fold_below o idle t f (i + 1)
unfolding fold_below
fold_more o idle t f i s v next m e a = rw (add-one i) (a ∙ ap₂ (two_of o) m e)

-- the same with i at most W, and after the last turn
pub record Folded (o : TwoOp) (idle W t : ℕ) (f : ℕ → ℕ) (s i : ℕ) : Type 0 where
  pub low : i ≤ W
  pub made : s ≡ fold_below o idle t f i

pub folded_none : {W : ℕ} (o : TwoOp) (idle t : ℕ) (f : ℕ → ℕ) → Folded o idle W t f idle 0
folded_none o idle t f = record { low = omega arith; made = fold_none o idle t f }

module _ {o : TwoOp} {idle W t : ℕ} {f : ℕ → ℕ} {s i : ℕ} (h : Folded o idle W t f s i) where
  pub folded_more : i < W → (v next : ℕ) → v ≡ brought idle t f i → next ≡ two_of o s v → Folded o idle W t f next (i + 1)
  folded_more b v next e a = record { low = omega arith; made = fold_more o idle t f i s v next h.made e a }

  pub folded_all : W ≤ i → s ≡ fold_below o idle t f W
  folded_all b = let e : i ≡ W = omega (arith, h.low) in h.made ∙ ap (fold_below o idle t f) e
