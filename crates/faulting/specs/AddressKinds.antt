-- A step of the proofs: nothing that is said to the reader rests on this file.
-- The kinds of faults that addresses have, by name, and their numbers.
use Rattle.std.specs.Prelude.{ℕ, Option, None, Some}
use Rattle.faulting.specs.declared.addresses.AddressKind.{AddressKind}

abbrev pub number : AddressKind → ℕ
number AddressKind.Odd = 1
number AddressKind.PastDevice = 2
number AddressKind.PastLocal = 3
number AddressKind.Over = 6

-- 0 for none
abbrev pub number_of : Option AddressKind → ℕ
number_of None = 0
number_of (Some kind) = number kind
