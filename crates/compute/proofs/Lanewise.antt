-- What is gathered of a lane is its register; and a loop that fills a list with numbers of the lanes' registers.
use mathlib.Core.Path.{◌≡◌, sym, ap, ap₂, ◌∙◌}
use mathlib.Core.List.{List}
use Prim.Native.Nat.{ℕ, ◌+◌, ◌≤◌, ◌<◌}
use lib.ListN.{get_or, set}
use Rattle.lanes.specs.Sets.{widest}
use Rattle.lanes.proofs.Filling.{get_d_by_lane, by_lane_same, Filled, filled_more}
use Rattle.compute.specs.declared.Shape.{Shape}
use Rattle.compute.specs.Registers.{slot_in, gather_of, Roomy, Stands}
use Rattle.compute.specs.Lanewise.{by_one}

-- what is gathered of a lane is its register
pub get_d_gather : (shape : Shape) (regs : List ℕ) (r i : ℕ) → i < shape.width → shape.width ≤ widest
    → get_or (gather_of shape regs r) i 0 ≡ get_or regs (slot_in shape i r) 0
unfolding gather_of
get_d_gather shape regs r i h n = get_d_by_lane shape.width _ i h n

-- a lane's register that a loop reads is what is gathered of it
pub read_gathered : {shape : Shape} {regs : List ℕ} {r : ℕ} → Stands shape regs r → (i k : ℕ) → k ≡ slot_in shape i r → i < shape.width
    → get_or regs k 0 ≡ get_or (gather_of shape regs r) i 0
read_gathered {shape} {regs} {r} h i k e b = rw e (sym (get_d_gather shape regs r i b h.narrow))

-- so gathering what is gathered of each lane gives the same
pub gather_again : {shape : Shape} {regs : List ℕ} → Roomy shape regs → (r : ℕ) → by_one (λ n. n) shape regs r ≡ gather_of shape regs r
unfolding gather_of
gather_again {shape} {regs} h r = by_lane_same shape.width _ _ (λ i b. get_d_gather shape regs r i b h.narrow)

-- where the numbers are f's of a lane's register, or of two, a turn reads them where they stand
pub filled_one : {shape : Shape} {regs : List ℕ} {a : ℕ} {l : List ℕ} {i j v : ℕ} (f : ℕ → ℕ) → Stands shape regs a
    → Filled shape.width (λ k. f (get_or (gather_of shape regs a) k 0)) l i → i < shape.width → j ≡ slot_in shape i a → v ≡ f (get_or regs j 0)
    → Filled shape.width (λ k. f (get_or (gather_of shape regs a) k 0)) (set l i v) (i + 1)
filled_one {i = i} {j = j} {v = v} f h t b e q = filled_more t b v (q ∙ ap f (read_gathered h i j e b))

pub filled_two : {shape : Shape} {regs : List ℕ} {a a' : ℕ} {l : List ℕ} {i j j' v : ℕ} (f : ℕ → ℕ → ℕ) → Stands shape regs a × Stands shape regs a'
    → Filled shape.width (λ k. f (get_or (gather_of shape regs a) k 0) (get_or (gather_of shape regs a') k 0)) l i → i < shape.width
    → j ≡ slot_in shape i a → j' ≡ slot_in shape i a' → v ≡ f (get_or regs j 0) (get_or regs j' 0)
    → Filled shape.width (λ k. f (get_or (gather_of shape regs a) k 0) (get_or (gather_of shape regs a') k 0)) (set l i v) (i + 1)
filled_two {i = i} {j = j} {j' = j'} {v = v} f h t b e e' q =
    filled_more t b v (q ∙ ap₂ f (read_gathered h.0 i j e b) (read_gathered h.1 i j' e' b))
