-- The kinds of faults, each with its lanes. Page 01, "One step"; kind 6 by page 02.
use Rattle.std.specs.Prelude.{ℕ, Bool, true, ◌&&◌, cond, List, [], ◌∷◌, eqb}
use Rattle.lanes.specs.declared.said.Fault.{Fault}
use Rattle.instructions.specs.declared.instr.Space.{Space}
use Rattle.faulting.specs.declared.faults.Faults.{Faults}

-- a kind with its lanes
abbrev pub fault : ℕ → ℕ → Fault
fault kind lanes = record { kind = kind; lanes = lanes }

-- how many kinds there are
abbrev pub kinds : ℕ
kinds = 6

-- every kind with its lanes, in rising order
abbrev pub every : Faults → List Fault
every f = fault 1 f.odd ∷ fault 2 f.device ∷ fault 3 f.local ∷ fault 4 f.divisor ∷ fault 5 f.barrier ∷ fault 6 f.over ∷ []

-- the faults whose lanes of kind k are `lanes k`
abbrev pub of_kinds : (ℕ → ℕ) → Faults
of_kinds lanes = record { odd = lanes 1; device = lanes 2; local = lanes 3; divisor = lanes 4; barrier = lanes 5; over = lanes 6 }

-- no kind of a list has lanes; and so no lane faults
abbrev pub no_lanes : List Fault → Bool
no_lanes [] = true
no_lanes (x ∷ xs) = eqb x.lanes 0 && no_lanes xs

abbrev pub clear : Faults → Bool
clear f = no_lanes (every f)

-- those of a list that have lanes
abbrev pub with_lanes : List Fault → List Fault
with_lanes [] = []
with_lanes (x ∷ xs) = cond (eqb x.lanes 0) (with_lanes xs) (x ∷ with_lanes xs)

-- the kinds that have lanes, in rising order, with the lanes of each
abbrev pub listed : Faults → List Fault
listed f = with_lanes (every f)

-- the lanes of kind k among a list's; none where it has no such kind
unfoldable pub lanes_among : ℕ → List Fault → ℕ
lanes_among k [] = 0
lanes_among k (x ∷ xs) = cond (eqb x.kind k) x.lanes (lanes_among k xs)

abbrev pub lanes_of_kind : ℕ → Faults → ℕ
lanes_of_kind k f = lanes_among k (every f)

-- ---- the faults of one cause

abbrev pub no_faults : Faults
no_faults = of_kinds (λ k. 0)

-- the kind of an address past device and past local memory
abbrev pub past_kind : Space → ℕ
past_kind Space.Device = 2
past_kind Space.Local = 3

-- of divisors, and of a barrier
abbrev pub of_divisors : ℕ → Faults
of_divisors lanes = of_kinds (λ k. cond (eqb k 4) lanes 0)

abbrev pub of_barrier : ℕ → Faults
of_barrier lanes = of_kinds (λ k. cond (eqb k 5) lanes 0)
