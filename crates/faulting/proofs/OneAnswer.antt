-- Any two results that the promise of a public function allows are equal.
use mathlib.Core.Path.{◌≡◌, sym, ◌∙◌}
use mathlib.Core.Bool.{Bool}
use mathlib.Core.List.{List}
use Prim.Native.Nat.{ℕ, ◌-◌}
use lib.ListN.{get_or}
use Rattle.instructions.specs.declared.instr.Space.{Space}
use Rattle.faulting.specs.declared.faults.Faults.{Faults}
use Rattle.faulting.specs.Kinds.{of_kinds, no_faults, of_barrier, clear, lanes_of_kind}
use Rattle.faulting.specs.Causes.{address_faults, divisor_faults}

pub no_faults_once : (r q : Faults) → r ≡ no_faults → q ≡ no_faults → r ≡ q
no_faults_once r q e g = e ∙ sym g

pub from_lanes_once : (lanes : List ℕ) (r q : Faults) → r ≡ of_kinds (λ k. get_or lanes (k - 1) 0) → q ≡ of_kinds (λ k. get_or lanes (k - 1) 0) → r ≡ q
from_lanes_once lanes r q e g = e ∙ sym g

pub of_barrier_once : (lanes : ℕ) (r q : Faults) → r ≡ of_barrier lanes → q ≡ of_barrier lanes → r ≡ q
of_barrier_once lanes r q e g = e ∙ sym g

pub is_clear_once : (f : Faults) (r q : Bool) → r ≡ clear f → q ≡ clear f → r ≡ q
is_clear_once f r q e g = e ∙ sym g

pub lanes_of_kind_once : (k : ℕ) (f : Faults) (r q : ℕ) → r ≡ lanes_of_kind k f → q ≡ lanes_of_kind k f → r ≡ q
lanes_of_kind_once k f r q e g = e ∙ sym g

pub address_faults_once : (s : Space) (W : ℕ) (at : List ℕ) (offset words t : ℕ) (r q : Faults) → r ≡ address_faults s W at offset words t
    → q ≡ address_faults s W at offset words t → r ≡ q
address_faults_once s W at offset words t r q e g = e ∙ sym g

pub divisor_faults_once : (W : ℕ) (divisors : List ℕ) (t : ℕ) (r q : Faults) → r ≡ divisor_faults W divisors t → q ≡ divisor_faults W divisors t → r ≡ q
divisor_faults_once W divisors t r q e g = e ∙ sym g
