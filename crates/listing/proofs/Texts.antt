-- The whole text: its pieces put one behind another, by the answer of `firsts`, and room for it.
use mathlib.Core.Path.{◌≡◌, refl, sym, ap, ◌∙◌}
use Prim.Native.Nat.{ℕ, ◌≤◌, ◌<◌}
use mathlib.Core.Bool.{true}
use mathlib.Core.List.{List, ◌++◌}
use native.Mathlib.Omega.{arith}
use lib.Dec.{ltb, eqb}
use lib.ListN.{length, take, drop, length-append}
use lib.Seq.{take_at}
use borrow.Author.Tests.{eq-eqb, ne_eqb, eqb-true, lt-ltb, le-ltb}
use Rattle.std.specs.Prelude.{Result, Ok, Err}
use Rattle.refusals.specs.declared.Refusal.{Refusal}
use Rattle.ground.specs.Tests.{all_of}
use Rattle.ground.proofs.Choices.{cond_by}
use Rattle.numbers.specs.Placed.{Puts}
use Rattle.numbers.proofs.Placing.{placed_front, length-placed, puts_join}
use Rattle.body.specs.Layout.{is_body}
use Rattle.dayfile.specs.Day.{most_records, page, count_of, bodies_of}
use Rattle.dayfile.proofs.Layouts.{page_lawful}
use Rattle.dayfile.proofs.Lists.{count_bodies}
use Rattle.records.specs.Read.{refusal_of, firsts_of, counted, firsts_in}
use Rattle.records.proofs.Accepted.{accepted_listed}
use Rattle.records.proofs.Records.{file_room, length_firsts, firsts_say}
use Rattle.listing.specs.Decimal.{field}
use Rattle.listing.specs.Rooms.{total_bytes}
use Rattle.listing.specs.Text.{most_bytes, text_room, space, newline, lines, distinct, total_line, table_text, text_of}
use Rattle.listing.specs.Text.{head_text, total_text, distinct_text, refused_text, long_text}
use Rattle.listing.specs.Writing.{Wrote}
use Rattle.listing.specs.declared.writer.Writer.{Writer}
use Rattle.listing.proofs.Places.{field_long}
use Rattle.listing.proofs.Putting.{wrote_join, wrote_same}
use Rattle.listing.proofs.Lines.{lines_long, listed_few}

-- ---- the table

pub total_wrote : {o p q r s : Writer} (n d : ℕ) → Wrote total_text o p → Wrote (field n space) p q → Wrote distinct_text q r
    → Wrote (field d newline) r s → Wrote (total_line n d) o s
unfolding total_line
total_wrote n d a b c e = wrote_join a (wrote_join b (wrote_join c e))

pub table_wrote : {o p q r : Writer} {d : ℕ} (fs : List ℕ) (bs : List (List ℕ)) → d ≡ distinct 1 fs → Wrote head_text o p
    → Wrote (lines 1 fs bs) p q → Wrote (total_line (length fs) d) q r → Wrote (table_text fs bs) o r
unfolding table_text
table_wrote fs bs e a b c = wrote_join a (wrote_join b (wrote_same (ap (total_line (length fs)) e) c))

pub total_puts : {o o1 o2 o3 o4 : List ℕ} {at q1 q2 q3 r : ℕ} (n d : ℕ) → Puts o at total_text q1 o1 → Puts o1 q1 (field n space) q2 o2
    → Puts o2 q2 distinct_text q3 o3 → Puts o3 q3 (field d newline) r o4 → Puts o at (total_line n d) r o4
unfolding total_line
total_puts n d a b c e = puts_join a (puts_join b (puts_join c e))

pub table_puts : {o o1 o2 o3 : List ℕ} {at q1 q2 r d : ℕ} (fs : List ℕ) (bs : List (List ℕ)) → d ≡ distinct 1 fs → Puts o at head_text q1 o1
    → Puts o1 q1 (lines 1 fs bs) q2 o2 → Puts o2 q2 (total_line (length fs) d) r o3 → Puts o at (table_text fs bs) r o3
unfolding table_text
table_puts fs bs e a b c = rw (← e) (puts_join a (puts_join b c))

total_long : (n d : ℕ) → length (total_line n d) ≤ total_bytes
unfolding total_line
total_long n d = simp length-append (omega (arith, field_long n space, field_long d newline))

table_long : (fs : List ℕ) (bs : List (List ℕ)) → all_of is_body bs ≡ true → length fs ≤ most_records → length (table_text fs bs) ≤ text_room
unfolding table_text
table_long fs bs e h = simp length-append (omega (arith, lines_long 1 fs bs e, total_long (length fs) (distinct 1 fs)))

-- ---- the text for a file

pub text_long : (f : List ℕ) → most_bytes < length f → long_text ≡ text_of f
unfolding text_of
text_long f h = simp (lt-ltb most_bytes (length f) h)

module _ (f : List ℕ) (short : length f ≤ most_bytes) where
  pub text_table : (d : List ℕ) → d ≡ f → refusal_of page d ≡ 0 → table_text (firsts_of (bodies_of page d)) (bodies_of page d) ≡ text_of f
  unfolding text_of
  text_table d e ok = let ok' : refusal_of page f ≡ 0 = rw (← e) ok in simp (le-ltb most_bytes (length f) short, eq-eqb (refusal_of page f) 0 ok') (rw e)

  pub text_refused : (k : ℕ) → (refusal_of page f ≡ 0 → ⊥) → k ≡ refusal_of page f → refused_text ++ field k newline ≡ text_of f
  unfolding text_of
  text_refused k h e = simp (le-ltb most_bytes (length f) short, ne_eqb (refusal_of page f) 0 h) (rw e)

-- every text fits a buffer of 176,000 bytes
pub text_room_lem : (f : List ℕ) → length (text_of f) ≤ text_room
unfolding text_of
text_room_lem f =
    let fs = firsts_of (bodies_of page f) in
    cond_by (λ (t : List ℕ). length t ≤ text_room) (ltb most_bytes (length f)) _ _
    (λ h. omega arith)
    (λ h.
    cond_by (λ (t : List ℕ). length t ≤ text_room) (eqb (refusal_of page f) 0) _ _
    (λ k.
    let ok = eqb-true (refusal_of page f) 0 k in
    table_long fs (bodies_of page f) (accepted_listed page_lawful f ok).each (listed_few f fs ok refl))
    (λ k. omega (arith, length-append refused_text (field (refusal_of page f) newline), field_long (refusal_of page f) newline)))

-- ---- what `firsts` answered of an accepted file, into a buffer of 1,024 numbers

-- n records were counted, and as many numbers are their first equal ones
pub record Counted (f : List ℕ) (n : ℕ) (out : List ℕ) : Type 0 where
  pub within : n ≤ length out
  pub firsts : take n out ≡ firsts_of (bodies_of page f)

fits : (f o : List ℕ) → length o ≡ most_records → refusal_of page f ≡ 0 → count_of f ≤ length o
fits f o room h = omega (arith, (file_room page_lawful f h).0)

module _ (f o : List ℕ) {out : List ℕ} {r : Result ℕ Refusal} (ok : refusal_of page f ≡ 0) (room : length o ≡ most_records)
    (e : counted r out ≡ firsts_in page f o) where
  pub firsts_counted : (n : ℕ) → r ≡ Ok n → Counted f n out
  firsts_counted n h =
      let c = firsts_say page f o (fits f o room) (ap (λ (a : Result ℕ Refusal). counted a out) (sym h) ∙ e) in
      let fs = firsts_of (bodies_of page f) in
      let l : length fs ≡ count_of f = length_firsts (bodies_of page f) ∙ count_bodies page f in
      let k = fits f o room ok in
      let en = c.1 in
      record {
        within = omega (arith, ap length c.2, length-placed o 0 fs);
        firsts = ap (take n) (c.2 ∙ placed_front o fs (omega arith)) ∙ take_at fs (drop (length fs) o) n (l ∙ sym en);
      }

  pub never_refused : (x : Refusal) → r ≡ Err x → ⊥
  never_refused x h = (firsts_say page f o (fits f o room) (ap (λ (a : Result ℕ Refusal). counted a out) (sym h) ∙ e)).0 ok

-- ---- and of any file

module _ (f o out : List ℕ) (r : Result ℕ Refusal) (room : length o ≡ most_records) (e : counted r out ≡ firsts_in page f o) where
  pub counted_accepted : (n : ℕ) → r ≡ Ok n → refusal_of page f ≡ 0
  counted_accepted n h = (firsts_say page f o (fits f o room) (ap (λ (a : Result ℕ Refusal). counted a out) (sym h) ∙ e)).0

  pub firsts_not : (x : Refusal) → r ≡ Err x → (refusal_of page f ≡ 0 → ⊥) × (x.number ≡ refusal_of page f)
  firsts_not x h = firsts_say page f o (fits f o room) (ap (λ (a : Result ℕ Refusal). counted a out) (sym h) ∙ e)
