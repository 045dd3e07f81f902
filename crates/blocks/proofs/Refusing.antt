-- What a refusal of the check says: it is no pass, and two that are one are of one rule and place.
use mathlib.Core.Path.{◌≡◌, sym, ap}
use Prim.Native.Nat.{ℕ}
use native.Mathlib.Omega.{arith}
use Rattle.std.specs.Prelude.{Result, Ok, Err, IsErrAnd}
use Rattle.refusals.specs.declared.Refusal.{Refusal}
use Rattle.blocks.specs.Scan.{Checked}

pub fine_not_refused : {A T : Type 0} {x : T} {r : Refusal} → ◌≡◌ {A = Result T Refusal} (Ok x) (Err r) → A
fine_not_refused e = let z : ◌≡◌ {A = ℕ} 0 1 = cc in absurd (omega arith)

pub refused_not_fine : {A : Type 0} (r : Refusal) → ◌≡◌ {A = Checked} (Err r) (Ok tt) → A
refused_not_fine r e = fine_not_refused (sym e)

pub same_fine : {T : Type 0} {x y : T} → ◌≡◌ {A = Result T Refusal} (Ok x) (Ok y) → x ≡ y
same_fine e = cc

pub same_refusal : (q r : Refusal) → ◌≡◌ {A = Checked} (Err q) (Err r) → q ≡ r
same_refusal q r e = cc

pub same_place : (q r : Refusal) → ◌≡◌ {A = Checked} (Err q) (Err r) → q.place ≡ r.place
same_place q r e = ap (λ (x : Refusal). x.place) (same_refusal q r e)

-- what `?` hands on is the refusal that it met
pub handed_on : {T : Type 0} (r : Result T Refusal) {x : Refusal} → IsErrAnd r (λ y. y ≡ x) → r ≡ Err x
handed_on (Ok v) e = absurd e
handed_on (Err y) e = ap Err e
