-- Any two results that the promise of a public function allows are equal, and so are the buffers afterwards.
use mathlib.Core.Path.{◌≡◌, sym, ap, ◌∙◌}
use mathlib.Core.List.{List}
use Prim.Native.Nat.{ℕ}
use Rattle.faulting.specs.declared.faults.Faults.{Faults}
use Rattle.compute.specs.declared.Carried.{Carried}
use Rattle.compute.specs.Carrying.{Outcome, carried}

abbrev answer : Faults → ℕ → Carried
answer faults predicate = record { faults = faults; predicate = predicate }

pub one_answer : (o : Outcome) (r r' : Carried) (regs regs' device device' local local' : List ℕ) → carried r regs device local ≡ o
    → carried r' regs' device' local' ≡ o → (r ≡ r') × (regs ≡ regs') × (device ≡ device') × (local ≡ local')
one_answer o r r' regs regs' device device' local local' p q =
    let e : carried r regs device local ≡ carried r' regs' device' local' = p ∙ sym q in (
      ap (λ (z : Outcome). answer z.faults z.after.predicate) e,
      ap (λ (z : Outcome). z.after.regs) e,
      ap (λ (z : Outcome). z.after.memories.device) e,
      ap (λ (z : Outcome). z.after.memories.local) e,
    )
