-- A number for each lane of the widest wave.
use Rattle.std.specs.Prelude.{ℕ, cond, List, ltb}
use Rattle.ground.specs.Lists.{tabulate}
use Rattle.lanes.specs.Sets.{widest}

-- f of each lane below W, and 0 for the others of the widest wave
unfoldable pub by_lane : ℕ → (ℕ → ℕ) → List ℕ
by_lane W f = tabulate widest (λ i. cond (ltb i W) (f i) 0)
