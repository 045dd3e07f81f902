-- The promise of each public function allows one answer, and one later content of what it was lent.
use Rattle.std.proofs.Common.{◌≡◌, ℕ, min, List, [], sym, ap, ◌∙◌}
use Rattle.instructions.specs.declared.instr.Guard.{Guard}
use Rattle.lanes.specs.Sets.{widest}
use Rattle.lanes.specs.Blocks.{nesting}
use Rattle.lanes.specs.declared.said.Block.{Block}
use Rattle.wave.specs.declared.state.Hot.{Hot}
use Rattle.wave.specs.declared.state.State.{State}
use Rattle.wave.specs.Wave.{wave_of, preds_of, hot_of, Held, held, tidied, state_of, launch, clear}
use Rattle.wave.specs.Going.{onward_by, executing_of}

pub one_depth : (d r q : ℕ) → r ≡ min d nesting → q ≡ min d nesting → r ≡ q
one_depth d r q e f = e ∙ sym f

pub one_launched : (n : ℕ) (r q : State) → r ≡ state_of (launch (min n widest)) clear → q ≡ state_of (launch (min n widest)) clear → r ≡ q
one_launched n r q e f = e ∙ sym f

pub one_not_launched : (r q : State) → r ≡ state_of (launch 0) clear → q ≡ state_of (launch 0) clear → r ≡ q
one_not_launched r q e f = e ∙ sym f

pub one_executing : (g : Guard) (h : Hot) (r q : ℕ) → r ≡ executing_of g h.active (preds_of h) → q ≡ executing_of g h.active (preds_of h) → r ≡ q
one_executing g h r q e f = e ∙ sym f

pub one_onward : (size : ℕ) (h r q : Hot) → ((xs : List Block) → r ≡ hot_of (onward_by size (wave_of h xs)) (preds_of h))
    → ((xs : List Block) → q ≡ hot_of (onward_by size (wave_of h xs)) (preds_of h)) → r ≡ q
one_onward size h r q e f = e [] ∙ sym (f [])

-- lent xs, the one left ys and the other zs
pub one_tidy : (h : Hot) (xs : List Block) (r q : Hot) (ys zs : List Block)
    → held r ys ≡ tidied h xs
    → held q zs ≡ tidied h xs → (r ≡ q) × (ys ≡ zs)
one_tidy h xs r q ys zs e f = (ap (λ (x : Held). x.hot) (e ∙ sym f), ap (λ (x : Held). x.blocks) (e ∙ sym f))
