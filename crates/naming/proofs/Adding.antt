-- Text added to a line, as far as it fits: bytes put behind those that stand there, and texts one behind another.
use mathlib.Core.Path.{◌≡◌, refl, sym, ap, ◌∙◌}
use mathlib.Core.List.{List, [], ◌∷◌, ◌++◌, append_assoc, append-nil}
use Prim.Native.Nat.{ℕ, zero, suc, ◌+◌, ◌-◌, ◌≤◌, ◌<◌, min}
use native.Mathlib.Omega.{arith}
use lib.ListN.{length, get_or, take, set, length-append}
use lib.Seq.{take-append-add, take_at, take-length, length-take-le}
use borrow.Rule.Slice.PartMut.{put_mid, post_of}
use Rattle.std.proofs.lemmas.List.{length-take, take_more, take_more_set, take-take, take_min}
use Rattle.texts.specs.Text.{text_room}
use Rattle.naming.specs.Line.{Adds}

-- what doesn't fit makes no difference to what is added later
take_cut : (r : ℕ) (x b : List ℕ) → take r (take r x ++ b) ≡ take r (x ++ b)
take_cut zero x b = refl
take_cut (suc r) [] b = refl
take_cut (suc r) (c ∷ x) b = ap (λ (l : List ℕ). c ∷ l) (take_cut r x b)

pub adds_same : {o A B n : List ℕ} → A ≡ B → Adds o A n → Adds o B n
adds_same {o} {A} {B} {n} e a = rw e at a

pub adds_join : {o m n A B : List ℕ} → Adds o A m → Adds m B n → Adds o (A ++ B) n
adds_join {o} {m} {n} {A} {B} a b =
    record {
      holds =
          b.holds ∙ sym (take_cut text_room m B) ∙ ap (λ (l : List ℕ). take text_room (l ++ B)) a.holds
          ∙ take_cut text_room (o ++ A) B
          ∙ ap (take text_room) (append_assoc o A B);
    }

-- as many bytes as there is room for, put behind the `start` that stand there
pub put_adds : (bytes text mid : List ℕ) (start end : ℕ) → length bytes ≡ text_room → start ≤ text_room → end ≡ min text_room (start + length text)
    → mid ≡ take (end - start) text → Adds (take start bytes) text (take end (put_mid start (end - start) bytes mid))
put_adds bytes text mid start end l h e m =
    let p = take start bytes in
    let room = text_room - start in
    let long : length p ≡ start = length-take-le start bytes (omega arith) in
    let some : length mid ≡ end - start = ap length m ∙ length-take-le (end - start) text (omega arith) in
    let fits : end - start ≡ min room (length text) = omega arith in
    let whole : mid ≡ take room text = m ∙ ap (λ (k : ℕ). take k text) fits ∙ take_min room text in
    let rest = post_of start (end - start) bytes in
    let front : take end (put_mid start (end - start) bytes mid) ≡ p ++ mid =
    ap (take end) (sym (append_assoc p mid rest)) ∙ take_at (p ++ mid) rest end (omega (arith, length-append p mid)) in
    let all : length p + room ≡ text_room = omega arith in
    let cut = rw all at (take-append-add p text room) in
    let cut_again = rw all at (take-append-add p (take room text) room) in
    record {
      holds =
          ap (take text_room) (front ∙ ap (λ (t : List ℕ). p ++ t) whole)
          ∙ cut_again
          ∙ ap (λ (t : List ℕ). p ++ t) (take-take room room text (omega arith))
          ∙ sym cut;
    }

-- a byte put behind the `start` that stand there
pub byte_adds : (bytes : List ℕ) (x start : ℕ) → start < length bytes → Adds (take start bytes) (x ∷ []) (take (start + 1) (set bytes start x))
byte_adds bytes x start h = record { holds = ap (take text_room) (take_more_set bytes start x h) }

-- a full line takes none
pub full_adds : (bytes : List ℕ) (x start : ℕ) → length bytes ≡ text_room → text_room ≤ start → Adds (take start bytes) (x ∷ []) (take start bytes)
full_adds bytes x start l h =
    let p = take start bytes in
    let n : length p ≡ text_room = length-take start bytes ∙ omega (arith, l) in
    record { holds = ap (λ (k : ℕ). take k p) (sym n) ∙ take-length p ∙ sym (take_at p (x ∷ []) text_room n) }

-- nothing added, a byte more, and all
pub adds_none : {o : List ℕ} → Adds o [] o
adds_none {o} = record { holds = ap (take text_room) (sym (append-nil o)) }

pub adds_on : {o m n : List ℕ} (bs : List ℕ) (k : ℕ) → k < length bs → Adds o (take k bs) m → Adds m (get_or bs k 0 ∷ []) n → Adds o (take (k + 1) bs) n
adds_on bs k h a b = adds_same (sym (take_more bs k 0 h)) (adds_join a b)

pub adds_all : {o n : List ℕ} (bs : List ℕ) (k : ℕ) → length bs ≤ k → k ≤ length bs → Adds o (take k bs) n → Adds o bs n
adds_all bs k h g a = let e : k ≡ length bs = omega arith in adds_same (ap (λ (j : ℕ). take j bs) e ∙ take-length bs) a
