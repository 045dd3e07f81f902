-- The parts of a line, added one behind another, are its text.
use mathlib.Core.Path.{◌≡◌, refl, sym, ap, ◌∙◌}
use mathlib.Core.Bool.{Bool, cond}
use mathlib.Core.List.{List, [], ◌∷◌, ◌++◌, append_assoc}
use Prim.Native.Nat.{ℕ, zero, suc, ◌+◌, ◌<◌}
use lib.ListN.{length, get_or, take}
use Rattle.std.proofs.lemmas.List.{take_more, flat_map_more}
use Rattle.instructions.specs.declared.instr.Instr.{Instr}
use Rattle.texts.specs.Bytes.{ascii}
use Rattle.texts.specs.Names.{name_of}
use Rattle.texts.specs.Numerals.{numeral}
use Rattle.texts.specs.Templates.{Item, get, template}
use Rattle.texts.specs.Text.{shown, operands, scope_text, on_text, text_of}
use Rattle.naming.specs.declared.operands.Part.{Part}
use Rattle.naming.specs.Line.{Adds}
use Rattle.naming.specs.Parts.{part_text, parts_text}
use Rattle.naming.proofs.Adding.{adds_join, adds_same}

pub parts_on : {o m n : List ℕ} (ps : List Part) (k : ℕ) (d : Part) → k < length ps → Adds o (parts_text (take k ps)) m → Adds m (part_text (get_or ps k d)) n
    → Adds o (parts_text (take (k + 1) ps)) n
parts_on ps k d h a b =
    adds_same (flat_map_more part_text [] (take k ps) (get_or ps k d) ∙ ap parts_text (sym (take_more ps k d h))) (adds_join a b)

pub scope_adds : {o n : List ℕ} (s : ℕ) → (s ≡ 0 → ⊥) → Adds o (ascii " scope " ++ numeral s) n → Adds o (scope_text s) n
scope_adds zero h a = absurd (h refl)
scope_adds (suc s) h a = a

pub on_adds : {o n : List ℕ} {mark : List ℕ} (p : ℕ) (b : Bool) → (p ≡ 0 → ⊥) → mark ≡ cond b (ascii " on not p") (ascii " on p")
    → Adds o (mark ++ numeral p) n → Adds o (on_text p b) n
on_adds zero b h e a = absurd (h refl)
on_adds (suc p) b h e a = adds_same (ap (λ (m : List ℕ). m ++ numeral (suc p)) e) a

pub operands_then : (ps : List Item) (i : Instr) (t : List ℕ) → operands ps i [] ++ t ≡ operands ps i t
unfolding operands
operands_then [] i t = refl
operands_then (Item.mark m ∷ ps) i t = append_assoc m (operands ps i []) t ∙ ap (λ (l : List ℕ). m ++ l) (operands_then ps i t)
operands_then (Item.shows k f ∷ ps) i t =
    append_assoc (shown k (get f i)) (operands ps i []) t ∙ ap (λ (l : List ℕ). shown k (get f i) ++ l) (operands_then ps i t)

pub text_adds : {o m₁ m₂ m₃ n : List ℕ} (i : Instr) → Adds o (name_of i.op) m₁ → Adds m₁ (operands (template i.op) i []) m₂ → Adds m₂ (scope_text i.scope) m₃
    → Adds m₃ (on_text i.guard.pred i.guard.negate) n → Adds o (text_of i) n
text_adds i a b c d = adds_join a (adds_same (operands_then (template i.op) i _) (adds_join b (adds_join c d)))
