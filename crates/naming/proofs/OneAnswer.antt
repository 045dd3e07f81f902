-- Any two answers, with the later contents of the output, that the promise of writing a text allows are equal.
use Rattle.refusals.specs.declared.Refusal.{Refusal}
use Rattle.std.specs.Prelude.{Result}
use mathlib.Core.Path.{◌≡◌, sym, ap, ◌∙◌}
use mathlib.Core.List.{List}
use Prim.Native.Nat.{ℕ}
use Rattle.instructions.specs.declared.instr.Instr.{Instr}
use Rattle.naming.specs.Writing.{Written, written, text_in}

pub write_text_one : (i : Instr) (out : List ℕ) (r u : Result ℕ Refusal) (after later : List ℕ) → written r after ≡ text_in i out
    → written u later ≡ text_in i out → (r ≡ u) × (after ≡ later)
write_text_one i out r u after later p q = (ap (λ (w : Written). w.answer) (p ∙ sym q), ap (λ (w : Written). w.after) (p ∙ sym q))
