-- What the blocks see at a place, against the words there: a refusal exactly if the words break its rule (`bad_if`), and a block
-- instruction or a plain one exactly if an instruction stands there, its registers below R (`has`, `has_seen`).
use Prim.Native.Nat.{ℕ, ◌<◌}
use native.Mathlib.Omega.{arith}
use mathlib.Core.Path.{◌≡◌, sym, ap, ◌∙◌, subst}
use mathlib.Core.Bool.{true, false}
use mathlib.Core.List.{List}
use mathlib.Core.Logic.{◌↔◌, ⊎_elim}
use lib.ListN.{length}
use Rattle.ground.proofs.Bools.{never}
use Rattle.ground.proofs.Tests.{true_or_false}
use Rattle.std.specs.Prelude.{Ok, Err}
use Rattle.refusals.specs.declared.Refusal.{Refusal}
use Rattle.refusals.specs.declared.Rule.{Rule}
use Rattle.refusals.specs.Table.{broken}
use Rattle.words.specs.Layout.{words_of}
use Rattle.instructions.specs.Registers.{registers_below}
use Rattle.words.proofs.Standing.{stood, standing, read_span}
use Rattle.words.proofs.Verdicts.{Verdict, verdict}
use Rattle.words.proofs.Theorems.{refuses}
use Rattle.instructions.proofs.PastRegisters.{past_if}
use Rattle.blocks.specs.declared.item.Item.{Item}
use Rattle.blocks.specs.declared.item.Reading.{Reading}
use Rattle.blocks.specs.Item.{item_of, item_at}
use Rattle.nesting.specs.Nesting.{Has, Alone, in_words, register_past}
use Rattle.blocks.proofs.Refusing.{fine_not_refused, same_fine}
use Rattle.blocks.proofs.Items.{seen_whole, seen_past, seen_refused}

module _ (words : List ℕ) (by : Reading) (at : ℕ) (here : at < length words) where
  alone : (r : Refusal) → Verdict words at → item_at words by at ≡ Err r → Alone words by at r
  alone r (Verdict.broken q b e) f = let z : q ≡ r = cc (seen_refused words by at e) in subst (Alone words by at) z (in_words b)
  alone r (Verdict.read x k e) f =
      ⊎_elim
      (λ (t : registers_below by.registers x ≡ true). fine_not_refused (sym (seen_whole words by at e t) ∙ f))
      (λ (t : registers_below by.registers x ≡ false).
      let z : broken Rule.Register at ≡ r = cc (seen_past words by at e t) in
      subst (Alone words by at) z (register_past x (stood words at x k e).0 ((past_if by.registers x).0 t)))
      (true_or_false (registers_below by.registers x))

  bad : (r : Refusal) → Alone words by at r → item_at words by at ≡ Err r
  bad r (in_words b) = seen_refused words by at ((refuses words at r).1 b)
  bad r (register_past x s p) = seen_past words by at (standing words at x s) ((past_if by.registers x).1 p)

  -- THE WORDS BREAK A RULE by themselves exactly if the blocks see its refusal
  pub bad_if : (r : Refusal) → (item_at words by at ≡ Err r) ↔ Alone words by at r
  bad_if r = (alone r (verdict words at), bad r)

  shown : (i : Item) → Verdict words at → item_at words by at ≡ Ok i → Has words by at i
  shown i (Verdict.broken r b e) f = fine_not_refused (sym f ∙ seen_refused words by at e)
  shown i (Verdict.read x k e) f =
      ⊎_elim
      (λ (t : registers_below by.registers x ≡ true).
      let s = stood words at x k e in
      (x, s.0, λ p. never (sym ((past_if by.registers x).1 p) ∙ t), ap (item_of x.op) (sym s.1) ∙ same_fine (sym (seen_whole words by at e t) ∙ f)))
      (λ (t : registers_below by.registers x ≡ false). fine_not_refused (sym f ∙ seen_past words by at e t))
      (true_or_false (registers_below by.registers x))

  -- what the blocks see, where it is no refusal, is an instruction of the code
  pub has : (i : Item) → item_at words by at ≡ Ok i → Has words by at i
  has i = shown i (verdict words at)

-- AN INSTRUCTION OF THE CODE is in it, and is seen as what it is to the blocks
pub has_seen : (words : List ℕ) (by : Reading) (at : ℕ) (i : Item) → Has words by at i → (at < length words) × (item_at words by at ≡ Ok i)
has_seen words by at i h =
    let read = standing words at h.0 h.1 in
    let z = read_span words at h.0 (length (words_of h.0)) read in (
      omega arith,
      ⊎_elim
          (λ (t : registers_below by.registers h.0 ≡ true). seen_whole words by at read t ∙ ap Ok h.3)
          (λ (t : registers_below by.registers h.0 ≡ false). absurd (h.2 ((past_if by.registers h.0).0 t)))
          (true_or_false (registers_below by.registers h.0)),
    )
