-- The kinds of a fault as text, kind by kind: a comma ends each but the last, a space the last.
use mathlib.Core.Path.{◌≡◌, refl, sym, ap, ◌∙◌}
use Prim.Native.Nat.{ℕ, suc, ◌+◌, ◌*◌, ◌-◌, ◌≤◌, ◌<◌}
use mathlib.Core.Bool.{true}
use mathlib.Core.List.{List, [], ◌∷◌, ◌++◌, append-nil, map}
use native.Mathlib.Omega.{arith}
use native.Mathlib.Numerals.{add-one}
use lib.ListN.{length, get_or, drop, length-append, length-map, drop_of_length-le, get_or-map}
use lib.Seq.{drop-cons}
use Rattle.numbers.specs.Placed.{Puts}
use Rattle.lanes.specs.declared.said.Fault.{Fault}
use Rattle.body.specs.Body.{set_bytes, parts_at, no_fault}
use Rattle.body.specs.Layout.{kind_lists, most_kinds, is_body}
use Rattle.body.proofs.Starts.{body_starts, page_count}
use Rattle.listing.specs.Decimal.{field}
use Rattle.listing.specs.Rooms.{field_bytes, kinds_bytes}
use Rattle.listing.specs.Text.{space, comma, kinds_text}
use Rattle.listing.proofs.Places.{field_long}
use Rattle.listing.specs.Writing.{Wrote}
use Rattle.listing.specs.declared.writer.Writer.{Writer}
use Rattle.listing.proofs.Putting.{puts_near, Left, left_start, left_turn, left_end}

-- the kinds of a body: some, and not too many
abbrev pub kinds_of : List ℕ → List ℕ
kinds_of b = map (λ (f : Fault). f.kind) (parts_at b).faults

length-kinds : (b : List ℕ) → length (kinds_of b) ≡ length (parts_at b).faults
length-kinds b = length-map (parts_at b).faults (λ (f : Fault). f.kind)

pub kinds_few : (b : List ℕ) → is_body b ≡ true → (1 ≤ length (parts_at b).faults) × (length (parts_at b).faults ≤ most_kinds)
kinds_few b e = page_count (parts_at b).faults (body_starts kind_lists set_bytes b e).0.fits.faults

-- ---- the text of those from k on

module _ (ks : List ℕ) (k : ℕ) where
  kinds_more : k + 1 < length ks → kinds_text (drop k ks) ≡ field (get_or ks k 0) comma ++ kinds_text (drop (k + 1) ks)
  unfolding kinds_text
  kinds_more h = rw (drop-cons ks k 0 (omega arith), add-one k, drop-cons ks (suc k) 0 (omega arith))

  kinds_last : k + 1 ≡ length ks → kinds_text (drop k ks) ≡ field (get_or ks k 0) space
  unfolding kinds_text
  kinds_last h = rw (drop-cons ks k 0 (omega arith), drop_of_length-le ks {i = suc k} (omega arith))

kinds_long : (ks : List ℕ) → length (kinds_text ks) ≤ field_bytes * length ks
unfolding kinds_text
kinds_long [] = omega arith
kinds_long (k ∷ []) = omega (arith, field_long k space)
kinds_long (k ∷ l ∷ ks) = omega (arith, field_long k comma, kinds_long (l ∷ ks), length-append (field k comma) (kinds_text (l ∷ ks)))

pub kinds_short : (b : List ℕ) → is_body b ≡ true → length (kinds_text (kinds_of b)) ≤ kinds_bytes
kinds_short b e = omega (arith, (kinds_few b e).1, length-kinds b, kinds_long (kinds_of b))

pub kinds_near : {o o1 : List ℕ} {at r : ℕ} (b : List ℕ) → is_body b ≡ true → Puts o at (kinds_text (kinds_of b)) r o1 → r ≤ at + kinds_bytes
kinds_near b e = puts_near kinds_bytes (kinds_short b e)

-- ---- turns of the loop, in which kind k of a body comes next

pub record KindsLeft (b : List ℕ) (o m : Writer) (k : ℕ) : Type 0 where
  pub left : Left (kinds_text (kinds_of b)) (kinds_text (drop k (kinds_of b))) o m
  pub within : k < length (kinds_of b)

pub kinding_start : {b : List ℕ} {o : Writer} → is_body b ≡ true → KindsLeft b o o 0
kinding_start {b} e = record { left = left_start; within = omega (arith, (kinds_few b e).0, length-kinds b) }

kind_is : (b : List ℕ) (k : ℕ) {f : Fault} → f ≡ get_or (parts_at b).faults k no_fault → f.kind ≡ get_or (kinds_of b) k 0
kind_is b k e = ap (λ (x : Fault). x.kind) e ∙ sym (get_or-map (λ (x : Fault). x.kind) (parts_at b).faults k no_fault)

-- c kinds were counted
module _ {b : List ℕ} {o m n : Writer} {k c : ℕ} (g : KindsLeft b o m k) (ec : c ≡ length (parts_at b).faults) {f : Fault} where
  pub kinding_turn : k < c - 1 → f ≡ get_or (parts_at b).faults k no_fault → Wrote (field f.kind comma) m n → KindsLeft b o n (k + 1)
  kinding_turn h e p =
      let more : k + 1 < length (kinds_of b) = omega (arith, length-kinds b) in
      record { left = left_turn g.left (kinds_more (kinds_of b) k more ∙ rw (kind_is b k e) refl) p; within = more }

  pub kinding_end : c - 1 ≤ k → f ≡ get_or (parts_at b).faults (c - 1) no_fault → Wrote (field f.kind space) m n → Wrote (kinds_text (kinds_of b)) o n
  kinding_end h e p =
      let last : k + 1 ≡ length (kinds_of b) = omega (arith, length-kinds b, g.within) in
      let z : c - 1 ≡ k = omega (arith, length-kinds b) in
      let text : kinds_text (drop k (kinds_of b)) ≡ field f.kind space = kinds_last (kinds_of b) k last ∙ rw (kind_is b k (rw z at e)) refl in
      left_end (left_turn g.left (text ∙ sym (append-nil (field f.kind space))) p) refl
