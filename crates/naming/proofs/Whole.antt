-- A text put at the start of an output, by the numbers that the code has.
use Rattle.std.specs.Prelude.{Ok}
use mathlib.Core.Path.{◌≡◌, sym, ap, ◌∙◌}
use mathlib.Core.Bool.{true, false}
use mathlib.Core.List.{List, []}
use Prim.Native.Nat.{ℕ, ◌≤◌, ◌<◌, ◌^◌}
use native.Mathlib.Nat.{zero-add}
use native.Mathlib.Omega.{arith}
use lib.ListN.{length, take, drop}
use lib.Seq.{take_all, take-append_seam}
use borrow.Author.Tests.{le-leb, lt-leb}
use Rattle.refusals.specs.declared.Rule.{Rule}
use Rattle.instructions.specs.declared.instr.Instr.{Instr}
use Rattle.instructions.specs.Forms.{valid}
use Rattle.numbers.specs.Placed.{placed, Puts}
use Rattle.numbers.proofs.Placing.{placed_front}
use Rattle.texts.specs.Text.{text_of, text_room}
use Rattle.texts.proofs.Room.{text_room_lem}
use Rattle.naming.specs.Line.{Adds}
use Rattle.naming.specs.Writing.{Written, written, unwritten, put_in, text_in}

pub no_room : (t out : List ℕ) → length out < length t → unwritten Rule.Short out ≡ put_in t out
no_room t out h = rw (lt-leb _ _ h)

pub put_room : (t out after : List ℕ) → length t ≤ length out → after ≡ placed out 0 t → written (Ok (length t)) after ≡ put_in t out
put_room t out after h e = rw (le-leb _ _ h, e, placed_front out t h)

-- a line of 48 bytes holds the whole text of a valid instruction, at its front
module _ (i : Instr) (ok : valid i ≡ true) (n : i.number < 2 ^ 32) where
  pub line_room : {line after : List ℕ} {r : ℕ} → Puts line 0 (text_of i) r after → r ≤ text_room
  line_room a = let p = a.place in omega (arith, text_room_lem i ok n)

  pub line_front : {line after : List ℕ} {r : ℕ} → length line ≡ text_room → Puts line 0 (text_of i) r after → take r after ≡ text_of i
  line_front {line} {after} {r} l a =
      let few = text_room_lem i ok n in
      let e : r ≡ length (text_of i) = a.place ∙ zero-add (length (text_of i)) in
      rw (e, a.holds, placed_front line (text_of i) (omega arith)) (take-append_seam (text_of i) (drop (length (text_of i)) line))

-- what was added to an empty line is the whole text
line_whole : {t : List ℕ} (i : Instr) → valid i ≡ true → i.number < 2 ^ 32 → length t ≤ text_room → Adds [] (text_of i) t → t ≡ text_of i
line_whole {t} i ok n few a = sym (take_all text_room t few) ∙ a.holds ∙ take_all text_room (text_of i) (text_room_lem i ok n)

-- so putting it is what `text_in` says
pub put_text : {t : List ℕ} {w : Written} (i : Instr) (out : List ℕ) → valid i ≡ true → i.number < 2 ^ 32 → length t ≤ text_room → Adds [] (text_of i) t
    → w ≡ put_in t out → w ≡ text_in i out
put_text i out ok n few a e = rw ok (e ∙ ap (λ (t : List ℕ). put_in t out) (line_whole i ok n few a))

-- where it is the text as it stands
pub put_same : (i : Instr) (t out : List ℕ) → valid i ≡ true → t ≡ text_of i → put_in t out ≡ text_in i out
put_same i t out ok e = rw (ok, e)

pub not_valid : (i : Instr) (out : List ℕ) → valid i ≡ false → unwritten Rule.NoWords out ≡ text_in i out
not_valid i out bad = rw bad
