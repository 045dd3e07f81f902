-- A lane's store, as the code takes it; and that the turns of stores and atomics keep a memory's length.
use mathlib.Core.Path.{◌≡◌, refl, ◌∙◌}
use mathlib.Core.Bool.{Bool, cond}
use mathlib.Core.List.{List}
use Prim.Native.Nat.{ℕ}
use lib.ListN.{length, get_or, set}
use Rattle.ground.proofs.Lists.{length-in_order}
use Rattle.ground.proofs.Choices.{length_set_cond}
use Rattle.lanes.specs.Sets.{has}
use Rattle.arith.specs.Arith.{word_of}
use Rattle.compute.specs.Memory.{word_at, change_turn, changes_of}

-- whether the lane executes, and what it stores
pub store_turn : (at : List ℕ) (v : ℕ → ℕ) (t i : ℕ) (memory next : List ℕ) (p : Bool) (new : ℕ) → p ≡ has t i → new ≡ v i
    → next ≡ cond p (set memory (word_of (get_or at i 0)) new) memory → next ≡ change_turn at (λ j old. v j) t i memory
store_turn at v t i memory next p new e n h = h ∙ rw (e, n) refl

pub length-change_turn : (at : List ℕ) (f : ℕ → ℕ → ℕ) (t i : ℕ) (memory : List ℕ) → length (change_turn at f t i memory) ≡ length memory
length-change_turn at f t i memory = length_set_cond memory (word_of (get_or at i 0)) (f i (word_at at memory i)) (has t i)

pub length_changes : (W : ℕ) (at : List ℕ) (f : ℕ → ℕ → ℕ) (t : ℕ) (memory : List ℕ) → length (changes_of W at f t memory) ≡ length memory
unfolding changes_of
length_changes W at f t memory = length-in_order (change_turn at f t) (λ i l. length-change_turn at f t i l) W memory
