-- The lines of the listing, from what the code reads of a body, and the loops over the records: what is left, put behind, gives all.
use mathlib.Core.Path.{◌≡◌, refl, ap, ◌∙◌}
use Prim.Native.Nat.{ℕ, ◌+◌, ◌*◌, ◌-◌, ◌≤◌, ◌<◌}
use mathlib.Core.Bool.{true, false, cond}
use mathlib.Core.List.{List, [], ◌∷◌, ◌++◌, append_assoc}
use native.Mathlib.Omega.{arith}
use native.Mathlib.Numerals.{add-one}
use lib.Dec.{eqb}
use lib.ListN.{length, get_or, take, drop, length-append, drop_of_length-le}
use lib.Seq.{drop-cons}
use borrow.Author.Tests.{eq-eqb, ne_eqb}
use Rattle.ground.specs.Tests.{all_of}
use Rattle.numbers.specs.Placed.{Puts}
use Rattle.numbers.proofs.Placing.{puts_join}
use Rattle.body.specs.Body.{parts_at}
use Rattle.body.specs.Layout.{is_body}
use Rattle.dayfile.specs.Day.{most_records, page, count_of, place_of, length_of, bodies_of}
use Rattle.dayfile.proofs.Layouts.{page_lawful}
use Rattle.dayfile.proofs.Lists.{all_first, all_rest, count_bodies}
use Rattle.records.specs.Read.{refusal_of, firsts_of}
use Rattle.records.proofs.Accepted.{accepted_listed}
use Rattle.records.proofs.Records.{record_here, body_here, body_whole, length_firsts}
use Rattle.listing.specs.Decimal.{field}
use Rattle.listing.specs.Rooms.{line_bytes}
use Rattle.listing.specs.Text.{space, newline, kinds_text, line, lines, distinct}
use Rattle.listing.proofs.Places.{field_long}
use Rattle.listing.specs.Writing.{Wrote}
use Rattle.listing.specs.declared.writer.Writer.{Writer}
use Rattle.listing.proofs.Putting.{wrote_join, wrote_same, puts_near, Left, left_turn, left_end}
use Rattle.listing.proofs.Kinding.{kinds_of, kinds_short}

-- ---- a line

pub line_wrote : {o p q r s t u : Writer} {kernel place d : ℕ} (i first : ℕ) (b : List ℕ)
    → kernel ≡ (parts_at b).kernel → place ≡ (parts_at b).place → d ≡ length (parts_at b).blocks
    → Wrote (field i space) o p → Wrote (field first space) p q → Wrote (field kernel space) q r → Wrote (field place space) r s
    → Wrote (kinds_text (kinds_of b)) s t → Wrote (field d newline) t u → Wrote (line i first (parts_at b)) o u
unfolding line
line_wrote i first b ek ep ed one two three four kinds last =
    wrote_same (rw (ek, ep, ed) refl) (wrote_join one (wrote_join two (wrote_join three (wrote_join four (wrote_join kinds last)))))

pub line_puts : {o o1 o2 o3 o4 : List ℕ} {at q1 q2 q3 r kernel place d : ℕ} (i first : ℕ) (b : List ℕ)
    → kernel ≡ (parts_at b).kernel → place ≡ (parts_at b).place → d ≡ length (parts_at b).blocks
    → Puts o at (field i space ++ field first space) q1 o1 → Puts o1 q1 (field kernel space ++ field place space) q2 o2
    → Puts o2 q2 (kinds_text (kinds_of b)) q3 o3 → Puts o3 q3 (field d newline) r o4 → Puts o at (line i first (parts_at b)) r o4
unfolding line
line_puts i first b ek ep ed one two kinds last =
    rw (← ek, ← ep, ← ed) (simp append_assoc at (puts_join one (puts_join two (puts_join kinds last))))

line_long : (i first : ℕ) (b : List ℕ) → is_body b ≡ true → length (line i first (parts_at b)) ≤ line_bytes
unfolding line
line_long i first b e =
    let p = parts_at b in
    let d = length p.blocks in
    simp length-append
    (omega (arith, kinds_short b e, field_long i space, field_long first space, field_long p.kernel space, field_long p.place space, field_long d newline))

-- ---- all lines

pub lines_long : (i : ℕ) (fs : List ℕ) (bs : List (List ℕ)) → all_of is_body bs ≡ true → length (lines i fs bs) ≤ line_bytes * length fs
unfolding lines
lines_long i [] bs e = omega arith
lines_long i (f ∷ fs) [] e = omega arith
lines_long i (f ∷ fs) (b ∷ bs) e =
    let L = line i f (parts_at b) in
    omega (arith, line_long i f b (all_first page b bs e), lines_long (i + 1) fs bs (all_rest page b bs e), length-append L (lines (i + 1) fs bs))

lines_more : (fs : List ℕ) (bs : List (List ℕ)) (k i : ℕ) → k < length fs → k < length bs
    → lines i (drop k fs) (drop k bs)
    ≡ line i (get_or fs k 0) (parts_at (get_or bs k [])) ++ lines (i + 1) (drop (k + 1) fs) (drop (k + 1) bs)
unfolding lines
lines_more fs bs k i h g = rw (drop-cons fs k 0 h, drop-cons bs k [] g, add-one k)

-- turns of the loop that puts them, in which the line of record k + 1 comes next
module _ (fs : List ℕ) (bs : List (List ℕ)) {o m : Writer} {k : ℕ} (g : Left (lines 1 fs bs) (lines (k + 1) (drop k fs) (drop k bs)) o m) where
  pub lines_turn : {n : Writer} {b : List ℕ} → k < length fs → k < length bs → b ≡ get_or bs k []
      → Wrote (line (k + 1) (get_or fs k 0) (parts_at b)) m n → Left (lines 1 fs bs) (lines (k + 1 + 1) (drop (k + 1) fs) (drop (k + 1) bs)) o n
  lines_turn h hb e p = left_turn g (lines_more fs bs k (k + 1) h hb ∙ rw e refl) p

  pub lines_end : length fs ≤ k → Wrote (lines 1 fs bs) o m
  unfolding lines
  lines_end h = left_end g (ap (λ (l : List ℕ). lines (k + 1) l (drop k bs)) (drop_of_length-le fs {i = k} h))

-- ---- the records of an accepted file

-- the m bytes from a on, as the code cuts them out, are record k + 1
pub record Cut (f : List ℕ) (k a m : ℕ) : Type 0 where
  pub few : k < length (bodies_of page f)
  pub inside : a + m ≤ length f
  pub same : take (a + m - a) (drop a f) ≡ get_or (bodies_of page f) k []
  pub whole : is_body (take (a + m - a) (drop a f)) ≡ true

module _ (f fs : List ℕ) (ok : refusal_of page f ≡ 0) (e : fs ≡ firsts_of (bodies_of page f)) where
  pub listed_count : length fs ≡ count_of f
  listed_count = ap length e ∙ length_firsts (bodies_of page f) ∙ count_bodies page f

  pub listed_few : length fs ≤ most_records
  listed_few = omega (arith, listed_count, count_bodies page f, (accepted_listed page_lawful f ok).few)

  pub listed_near : {o o1 : List ℕ} {at r : ℕ} → Puts o at (lines 1 fs (bodies_of page f)) r o1 → r ≤ at + line_bytes * length fs
  listed_near = puts_near (line_bytes * length fs) (lines_long 1 fs (bodies_of page f) (accepted_listed page_lawful f ok).each)

  pub listed_cut : {k a m : ℕ} → k < length fs → a ≡ place_of f k → m ≡ length_of f k → Cut f k a m
  listed_cut {k} {a} {m} h ea em =
      let n : k < count_of f = omega (arith, listed_count) in
      let r = record_here page_lawful f ok n ea em in
      record { few = r.counted; inside = r.inside; same = body_here page_lawful f ok n ea em; whole = body_whole f ok n ea em }

-- ---- turns of the loop that counts

distinct_more : (fs : List ℕ) (k i : ℕ) → k < length fs
    → distinct i (drop k fs) ≡ cond (eqb (get_or fs k 0) i) 1 0 + distinct (i + 1) (drop (k + 1) fs)
unfolding distinct
distinct_more fs k i h = rw (drop-cons fs k 0 h, add-one k)

module _ (fs : List ℕ) (k d : ℕ) (e : d + distinct (k + 1) (drop k fs) ≡ distinct 1 fs) where
  pub distinct_first : k < length fs → get_or fs k 0 ≡ k + 1 → d + 1 + distinct (k + 1 + 1) (drop (k + 1) fs) ≡ distinct 1 fs
  distinct_first h f =
      let t : eqb (get_or fs k 0) (k + 1) ≡ true = eq-eqb (get_or fs k 0) (k + 1) f in
      omega (arith, simp t at (distinct_more fs k (k + 1) h))

  pub distinct_later : k < length fs → (get_or fs k 0 ≡ k + 1 → ⊥) → d + distinct (k + 1 + 1) (drop (k + 1) fs) ≡ distinct 1 fs
  distinct_later h f =
      let t : eqb (get_or fs k 0) (k + 1) ≡ false = ne_eqb (get_or fs k 0) (k + 1) f in
      omega (arith, simp t at (distinct_more fs k (k + 1) h))

  pub distinct_end : length fs ≤ k → d ≡ distinct 1 fs
  unfolding distinct
  distinct_end h = let y : d + distinct (k + 1) [] ≡ distinct 1 fs = rw (drop_of_length-le fs {i = k} h) at e in omega arith
