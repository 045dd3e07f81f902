-- Each promise of the crate allows one answer, and one later content of each buffer that was lent.
use mathlib.Core.Path.{◌≡◌, sym, ap, ◌∙◌}
use mathlib.Core.List.{List}
use Prim.Native.Nat.{ℕ}
use Rattle.std.specs.Prelude.{Result}
use Rattle.refusals.specs.declared.Refusal.{Refusal}
use Rattle.captures.specs.declared.answer.Part.{Part}
use Rattle.captures.specs.Capture.{Capture, count_place}
use Rattle.captures.specs.Write.{Writing, wrote, write_of}
use Rattle.captures.specs.Read.{Answer, Reading, reading, read_of}

pub write_once : (c : Capture) (out x y : List ℕ) (r q : Result ℕ Refusal) → wrote r x ≡ write_of c out → wrote q y ≡ write_of c out → (r ≡ q) × (x ≡ y)
write_once c out x y r q a b = let e = a ∙ sym b in (ap (λ (w : Writing). w.answer) e, ap (λ (w : Writing). w.file) e)

pub read_once : (file : List ℕ) (l x y : List (List ℕ)) (r q : Answer) → reading r x ≡ read_of file l → reading q y ≡ read_of file l → (r ≡ q) × (x ≡ y)
read_once file l x y r q a b = let e = a ∙ sym b in (ap (λ (w : Reading). w.answer) e, ap (λ (w : Reading). w.after) e)

pub count_place_once : (p : Part) (m n : ℕ) → m ≡ count_place p → n ≡ count_place p → m ≡ n
count_place_once p m n a b = a ∙ sym b
