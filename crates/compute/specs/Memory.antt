-- The memories, words of 32 bits, and what the lanes make of one. Page 01, "One step".
use Rattle.std.specs.Prelude.{ℕ, cond, List, get_or, set}
use Rattle.ground.specs.Lists.{in_order}
use Rattle.lanes.specs.Sets.{has}
use Rattle.instructions.specs.declared.instr.Space.{Space}
use Rattle.arith.specs.Arith.{address_of, word_of}
use Rattle.lanes.specs.EachLane.{by_lane}

-- device and local memory
pub record Memories : Type 0 where
  pub device : List ℕ
  pub local : List ℕ

abbrev pub memories : List ℕ → List ℕ → Memories
memories device local = record { device = device; local = local }

-- the memory that an instruction names
abbrev pub memory_of : Space → Memories → List ℕ
memory_of Space.Device y = y.device
memory_of Space.Local y = y.local

-- the addresses of a load or a store: base plus offset
abbrev pub addresses_of : ℕ → List ℕ → ℕ → List ℕ
addresses_of W bases offset = by_lane W (λ i. address_of (get_or bases i 0) offset)

-- the word that lane i's address names
abbrev pub word_at : List ℕ → List ℕ → ℕ → ℕ
word_at at memory i = get_or memory (word_of (get_or at i 0)) 0

-- lane i's turn at a memory, if it executes: f i is what it leaves of the word that it found
abbrev pub change_turn : List ℕ → (ℕ → ℕ → ℕ) → ℕ → ℕ → List ℕ → List ℕ
change_turn at f t i memory = cond (has t i) (set memory (word_of (get_or at i 0)) (f i (word_at at memory i))) memory

-- a memory after the stores or atomics of the lanes t, in rising lane order
unfoldable pub changes_of : ℕ → List ℕ → (ℕ → ℕ → ℕ) → ℕ → List ℕ → List ℕ
changes_of W at f t memory = in_order W (change_turn at f t) memory

-- the old word that lane i found, the lower lanes' work done; 0 where it does not execute
abbrev pub old_of : List ℕ → (ℕ → ℕ → ℕ) → ℕ → List ℕ → ℕ → ℕ
old_of at f t memory i = cond (has t i) (word_at at (in_order i (change_turn at f t) memory) i) 0
