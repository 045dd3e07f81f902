-- The predicate that a number names, given lanes of a set that holds all predicates: that set still does.
use mathlib.Core.Bool.{Bool, true, false}
use Prim.Native.Nat.{ℕ, ◌≤◌}
use native.Mathlib.Omega.{arith}
use lib.Dec.{eqb}
use Rattle.lanes.specs.Sets.{bit}
use Rattle.lanes.proofs.Bits.{bit_zero}
use Rattle.wave.specs.Wave.{Preds}
use Rattle.fits.proofs.AtLane.{PredsFit}
use Rattle.stepping.specs.Machine.{named, with_named}
use Rattle.stepping.proofs.Naming.{chosen, with_chosen}

module _ (l : ℕ) (ps : Preds) (f : PredsFit l ps) where
  chosen_fits : (a b c : Bool) (i : ℕ) → bit (chosen a b c ps) i ≤ bit l i
  chosen_fits true b c i = f.in1 i
  chosen_fits false true c i = f.in2 i
  chosen_fits false false true i = f.in3 i
  chosen_fits false false false i = omega (arith, bit_zero i)

  pub named_fits : (k i : ℕ) → bit (named k ps) i ≤ bit l i
  named_fits k i = chosen_fits (eqb k 1) (eqb k 2) (eqb k 3) i

  module _ (q : ℕ) (g : (i : ℕ) → bit q i ≤ bit l i) where
    with_chosen_fits : (a b c : Bool) → PredsFit l (with_chosen a b c q ps)
    with_chosen_fits true b c = record { in1 = g; in2 = f.in2; in3 = f.in3 }
    with_chosen_fits false true c = record { in1 = f.in1; in2 = g; in3 = f.in3 }
    with_chosen_fits false false true = record { in1 = f.in1; in2 = f.in2; in3 = g }
    with_chosen_fits false false false = f

    pub with_named_fits : (k : ℕ) → PredsFit l (with_named k q ps)
    with_named_fits k = with_chosen_fits (eqb k 1) (eqb k 2) (eqb k 3)
