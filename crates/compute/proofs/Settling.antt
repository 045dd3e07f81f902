-- What was lent is changed where no lane faults and else as before: from what the code tests, and from other names of the parts.
use mathlib.Core.Path.{◌≡◌, refl, sym, ap, ◌∙◌}
use mathlib.Core.Bool.{Bool, true, false, cond}
use Rattle.ground.proofs.Choices.{cond_ap}
use Rattle.faulting.specs.declared.faults.Faults.{Faults}
use Rattle.faulting.specs.Kinds.{clear}
use Rattle.compute.specs.Classes.{Settled}

module _ (faults answer : Faults) (test : Bool) (same : answer ≡ faults) (tested : test ≡ clear answer) where
  decided : (b : Bool) → test ≡ b → clear faults ≡ b
  decided b e = sym (ap clear same) ∙ sym tested ∙ e

  pub settled_changed : {A : Type 0} (changed before after : A) → test ≡ true → after ≡ changed → Settled faults changed answer before after
  settled_changed changed before after e h = record { answered = same; left = rw (decided true e) h }

  pub settled_same : {A : Type 0} (changed before : A) → test ≡ false → Settled faults changed answer before before
  settled_same changed before e = record { answered = same; left = rw (decided false e) refl }

pub settled_as : {A : Type 0} {faults answer : Faults} {changed before after : A} → Settled faults changed answer before after
    → (faults' : Faults) (changed' : A) → faults ≡ faults' → changed ≡ changed' → Settled faults' changed' answer before after
settled_as {A} {faults} {answer} {changed} {before} {after} h faults' changed' e f =
    record {
      answered = h.answered ∙ e;
      left = h.left ∙ ap (λ (x : Faults). cond (clear x) changed before) e ∙ ap (λ (x : A). cond (clear faults') x before) f;
    }

-- what is lent is part of something larger
pub settled_within : {A B : Type 0} {faults answer : Faults} {changed before after : A} (f : A → B) → Settled faults changed answer before after
    → Settled faults (f changed) answer (f before) (f after)
settled_within {A} {B} {faults} {answer} {changed} {before} f h =
    record { answered = h.answered; left = ap f h.left ∙ cond_ap f (clear faults) changed before }
