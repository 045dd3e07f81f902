-- A step of the proofs: nothing that is said to the reader rests on this file.
-- Lists of kinds as numbers, a hexadecimal digit each, the last kind first: 1 and 2 are 0x21. Faults are tested from the last to the first.
use Rattle.std.specs.Prelude.{ℕ, ◌+◌, ◌*◌, Bool, false, not, ◌&&◌, ◌||◌, List, [], ◌∷◌, ltb, eqb}
use Rattle.std.specs.Int.Bits.{bit_and, bit_or}
use Rattle.lanes.specs.declared.said.Fault.{Fault}
use Rattle.body.specs.Layout.{Kinds}

-- a kind is a digit, and not 0
abbrev pub digit : ℕ → Bool
digit kind = ltb 0 kind && ltb kind 16

unfoldable pub spelled : List ℕ → ℕ
spelled [] = 0
spelled (k ∷ ks) = k + 16 * spelled ks

-- n spells a list of the table
unfoldable pub spells : Kinds → ℕ → Bool
spells [] n = false
spells (ks ∷ k) n = eqb n (spelled ks) || spells k n

-- a fault kind may stand before others that have the lanes `seen`
unfoldable pub may_precede : Fault → ℕ → Bool
may_precede f seen = (digit f.kind && not (eqb f.lanes 0)) && eqb (bit_and f.lanes seen) 0

-- the lanes of sets
unfoldable pub together : List ℕ → ℕ
together [] = 0
together (a ∷ sets) = bit_or a (together sets)
