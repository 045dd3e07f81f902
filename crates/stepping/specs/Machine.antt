-- The whole machine that a step changes: the wave, its predicates, the registers and the two memories.
use Rattle.std.specs.Prelude.{ℕ, cond, List, eqb}
use Rattle.lanes.specs.declared.said.Block.{Block}
use Rattle.wave.specs.declared.state.Hot.{Hot}
use Rattle.compute.specs.Memory.{Memories}
use Rattle.wave.specs.Wave.{Wave, Preds, wave_of, preds_of}

pub record Machine : Type 0 where
  pub wave : Wave
  pub preds : Preds
  pub regs : List ℕ
  pub memories : Memories

-- the machine that the code holds in a few numbers, the lent blocks and three lent buffers
abbrev pub machine_of : Hot → List Block → List ℕ → List ℕ → List ℕ → Machine
machine_of h path regs device local =
    record { wave = wave_of h path; preds = preds_of h; regs = regs; memories = record { device = device; local = local } }

-- the set of predicate k; there is none but 1 to 3
abbrev pub named : ℕ → Preds → ℕ
named k ps = cond (eqb k 1) ps.p1 (cond (eqb k 2) ps.p2 (cond (eqb k 3) ps.p3 0))

-- the predicates, with s for predicate k
abbrev pub preds : ℕ → ℕ → ℕ → Preds
preds a b c = record { p1 = a; p2 = b; p3 = c }

abbrev pub with_named : ℕ → ℕ → Preds → Preds
with_named k s ps =
    cond (eqb k 1) (preds s ps.p2 ps.p3)
    (cond (eqb k 2) (preds ps.p1 s ps.p3) (cond (eqb k 3) (preds ps.p1 ps.p2 s) ps))

-- the hot numbers with other predicates
abbrev pub hot_with : Hot → Preds → Hot
hot_with h ps =
    record {
      place = h.place;
      active = h.active;
      halted = h.halted;
      p1 = ps.p1;
      p2 = ps.p2;
      p3 = ps.p3;
      depth = h.depth;
    }
