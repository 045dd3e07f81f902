-- Any two answers, with the later contents of what was lent, that the promise of a way into the replay allows are equal.
use mathlib.Core.Path.{◌≡◌, sym, ap, ◌∙◌}
use mathlib.Core.List.{List}
use Prim.Native.Nat.{ℕ}
use Rattle.compute.specs.Memory.{Memories}
use Rattle.stepping.specs.declared.answers.Replayed.{Replayed}
use Rattle.stepping.specs.Answer.{Answered, answered}

-- the answer that an answer with its buffers has
abbrev back : Answered → Replayed
back x = record { outcome = x.outcome; steps = x.steps; state = x.state }

-- for launch and resume alike: x is what the definition says
pub one_answer :
    (x : Answered) (r q : Replayed) (regs regs' device device' local local' : List ℕ) → answered r regs device local ≡ x →
    answered q regs' device' local' ≡ x → (r ≡ q) × (regs ≡ regs') × (device ≡ device') × (local ≡ local')
one_answer x r q regs regs' device device' local local' e f =
    let same = e ∙ sym f in
    let memories = ap (λ (a : Answered). a.memories) same in
    (ap back same, ap (λ (a : Answered). a.regs) same, ap (λ (y : Memories). y.device) memories, ap (λ (y : Memories). y.local) memories)
