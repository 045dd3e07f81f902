-- The promise of `control` allows one answer, and one later content of what it was lent.
use Rattle.std.proofs.Common.{◌≡◌, ℕ, List, sym, ap, ◌∙◌}
use Rattle.instructions.specs.declared.instr.ControlOp.{ControlOp}
use Rattle.lanes.specs.declared.said.Block.{Block}
use Rattle.wave.specs.declared.state.Hot.{Hot}
use Rattle.control.specs.declared.rules.Stepped.{Stepped}
use Rattle.control.specs.Control.{Given, given, control_of}

abbrev stepped_by : Given → Stepped
stepped_by g = record { barrier = g.barrier; hot = g.end.hot }

pub one_control : (op : ControlOp) (all t : ℕ) (h : Hot) (xs ys zs : List Block) (r q : Stepped) → given r ys ≡ control_of op all t h xs
    → given q zs ≡ control_of op all t h xs → (r ≡ q) × (ys ≡ zs)
one_control op all t h xs ys zs r q e f = (ap stepped_by (e ∙ sym f), ap (λ (g : Given). g.end.blocks) (e ∙ sym f))
