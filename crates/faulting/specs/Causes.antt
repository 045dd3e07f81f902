-- An address's kind of fault, and a divisor's; the lanes of each kind. Page 01, "One step"; kind 6 by page 02.
use Rattle.std.specs.Prelude.{ℕ, ◌+◌, ◌-◌, ◌*◌, ◌%◌, ◌^◌, Bool, not, ◌&&◌, cond, List, eqb, leb, ltb, get_or}
use Rattle.lanes.specs.Sets.{has, set_of}
use Rattle.instructions.specs.declared.instr.Space.{Space}
use Rattle.arith.specs.Arith.{wrapped, address_of, word_of}
use Rattle.faulting.specs.declared.faults.Faults.{Faults}
use Rattle.faulting.specs.Kinds.{of_kinds, past_kind}

-- an address that is not a multiple of 4, and one past a memory of so many words
abbrev pub is_odd : ℕ → Bool
is_odd address = not (eqb (address % 4) 0)

abbrev pub is_past : ℕ → ℕ → Bool
is_past words address = leb words (word_of address)

-- an address's kind of fault, 0 for none: 1 not a multiple of 4; 2 device, 3 local address a multiple of 4 and past the memory
abbrev pub address_fault : Space → ℕ → ℕ → ℕ
address_fault s words address = cond (is_odd address) 1 (cond (is_past words address) (past_kind s) 0)

-- a base plus an offset that reaches 2^32
abbrev pub is_over : ℕ → ℕ → Bool
is_over base offset = leb (2 ^ 32) (base + offset)

-- the kind of fault of a base and an offset: 6 they reach 2^32, before their address's
abbrev pub sum_fault : Space → ℕ → ℕ → ℕ → ℕ
sum_fault s words base offset = cond (is_over base offset) 6 (address_fault s words (address_of base offset))

-- the base that an offset was added to, of their address
abbrev pub base_of : ℕ → ℕ → ℕ
base_of address offset = wrapped (address + (2 ^ 32 - offset))

-- an address that is a multiple of 4, its base and offset below the bytes of so many words: no fault
abbrev pub in_reach : ℕ → ℕ → ℕ → Bool
in_reach offset words address = eqb (address % 4) 0 && ltb (base_of address offset + offset) (4 * words)

-- a divisor's: 4 divisor zero
abbrev pub divisor_fault : ℕ → ℕ
divisor_fault divisor = cond (eqb divisor 0) 4 0

-- the executing lanes with a fault of kind k
unfoldable pub fault_lanes : ℕ → ℕ → (ℕ → ℕ) → ℕ → ℕ
fault_lanes W t kind k = set_of W (λ i. has t i && eqb (kind i) k)

-- the faults of lanes that each have a kind
abbrev pub kinds_of : ℕ → ℕ → (ℕ → ℕ) → Faults
kinds_of W t kind = of_kinds (fault_lanes W t kind)

-- of their addresses, that an offset was added to, and of their divisors
abbrev pub address_faults : Space → ℕ → List ℕ → ℕ → ℕ → ℕ → Faults
address_faults space W at offset words t = kinds_of W t (λ i. sum_fault space words (base_of (get_or at i 0) offset) offset)

abbrev pub divisor_faults : ℕ → List ℕ → ℕ → Faults
divisor_faults W divisors t = kinds_of W t (λ i. divisor_fault (get_or divisors i 0))
