-- The answer of a run: what the loop leaves, its state made tidy.
use mathlib.Core.Path.{◌≡◌, ap, ◌∙◌}
use mathlib.Core.List.{List}
use Prim.Native.Nat.{ℕ}
use Rattle.lanes.specs.declared.said.Block.{Block}
use Rattle.wave.specs.declared.state.Hot.{Hot}
use Rattle.wave.specs.Layout.{array_of}
use Rattle.wave.specs.Wave.{Held, held, wave_of, preds_of, hot_of}
use Rattle.stepping.specs.declared.run.Stopped.{Stopped}
use Rattle.stepping.specs.Run.{Ran, gone}
use Rattle.stepping.specs.Answer.{Answered, answered, ending}

-- an answer, of the numbers and the blocks that its state holds
abbrev with_state : Stopped → List ℕ → List ℕ → List ℕ → Held → Answered
with_state a regs device local x =
    answered (record { outcome = a.outcome; steps = a.steps; state = record { hot = x.hot; blocks = x.blocks } }) regs device local

-- the answer of a run that stopped, its state made tidy
pub ends_tidy :
    (a : Stopped) (path : List Block) {r : Ran} {end : Hot} {tidied : List Block} {regs device local : List ℕ} → gone a path regs device local ≡ r →
    held end tidied ≡ held (hot_of (wave_of a.hot path) (preds_of a.hot)) (array_of (wave_of a.hot path).path) →
    with_state a regs device local (held end tidied) ≡ ending r
ends_tidy a path stopped tidy = ap (with_state a _ _ _) tidy ∙ ap ending stopped
