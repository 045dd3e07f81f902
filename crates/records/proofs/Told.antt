-- What reading tells of a record of a list's file: where its body stands, and the first record with equal bytes.
use mathlib.Core.Path.{◌≡◌, refl, sym, ap, ◌∙◌, subst}
use Prim.Native.Nat.{ℕ, zero, suc, ◌+◌, ◌-◌, ◌≤◌, ◌<◌}
use mathlib.Core.List.{List, [], ◌∷◌, flatten}
use mathlib.Core.Bool.{Bool, true, false, cond}
use mathlib.Core.Logic.{◌↔◌, dite}
use native.Mathlib.Decide.{dec_lt}
use native.Mathlib.Omega.{arith}
use lib.ListN.{length, get_or}
use Rattle.ground.specs.Tests.{same_list}
use Rattle.ground.proofs.Bools.{never}
use Rattle.ground.proofs.Tests.{same_refl, same_true}
use Rattle.dayfile.specs.Day.{Layout, table_end, place_of, length_of, file_of, Listed}
use Rattle.dayfile.proofs.Layouts.{Lawful}
use Rattle.dayfile.proofs.Lists.{parted, bodies_file}
use Rattle.dayfile.proofs.Tables.{row_of}
use Rattle.records.specs.Read.{recorded, first_same, firsts_of, read_answer}
use Rattle.records.specs.declared.reading.Record.{Record}
use Rattle.records.specs.Told.{body, Told}
use Rattle.records.proofs.Records.{read_so, first_at_lem}
use Rattle.records.proofs.Theorems.{made_accepted}

-- ---- the first equal list

-- n is the number, from 1, of the first of the lists that equals b
record First (b : List ℕ) (bs : List (List ℕ)) (n : ℕ) : Type 0 where
  low : 1 ≤ n
  equal : get_or bs (n - 1) [] ≡ b
  before : (j : ℕ) → j + 1 < n → get_or bs j [] ≡ b → ⊥

-- and no more than k + 1
abbrev FirstBy : List ℕ → List (List ℕ) → ℕ → ℕ → Type 0
FirstBy b bs k n = First b bs n × (n ≤ k + 1)

-- with the list x before the others: what holds of the others
module _ (b x : List ℕ) (xs : List (List ℕ)) (rest : (k : ℕ) → k < length xs → get_or xs k [] ≡ b → FirstBy b xs k (first_same b xs)) where
  module _ (t : same_list x b ≡ false) where
    -- x is another list
    differs : x ≡ b → ⊥
    differs e = never (sym t ∙ ap (λ (y : List ℕ). same_list y b) e ∙ same_refl b)

    earlier : First b xs (first_same b xs) → (j : ℕ) → j + 1 < 1 + first_same b xs → get_or (x ∷ xs) j [] ≡ b → ⊥
    earlier i zero l e = differs e
    earlier i (suc j) l e = i.before j (omega arith) e

    further : (k : ℕ) → k < length (x ∷ xs) → get_or (x ∷ xs) k [] ≡ b → FirstBy b (x ∷ xs) k (1 + first_same b xs)
    further zero h e = absurd (differs e)
    further (suc k) h e =
        let i = rest k (omega arith) e in
        let low : 1 ≤ first_same b xs = i.0.low in
        let z : 1 + first_same b xs - 1 ≡ suc (first_same b xs - 1) = omega arith in
        (record { low = omega arith; equal = rw z i.0.equal; before = earlier i.0 }, omega (arith, i.1))

  first_of_more : (t : Bool) → same_list x b ≡ t → (k : ℕ) → k < length (x ∷ xs) → get_or (x ∷ xs) k [] ≡ b
      → FirstBy b (x ∷ xs) k (cond t 1 (1 + first_same b xs))
  first_of_more true t k h e = (record { low = omega arith; equal = same_true x b t; before = λ j l q. omega arith }, omega arith)
  first_of_more false t k h e = further t k h e

first_is : (b : List ℕ) (bs : List (List ℕ)) (k : ℕ) → k < length bs → get_or bs k [] ≡ b → FirstBy b bs k (first_same b bs)
unfolding first_same
first_is b [] k h e = absurd (omega arith)
first_is b (x ∷ xs) k h e = first_of_more b x xs (λ j l q. first_is b xs j l q) (same_list x b) refl k h e

-- there is one such number
first_once : (b : List ℕ) (bs : List (List ℕ)) (m n : ℕ) → First b bs m → First b bs n → m ≡ n
first_once b bs m n f g =
    dite (dec_lt m n)
    (λ l. absurd (g.before (m - 1) (omega (arith, f.low)) f.equal))
    (λ l.
    dite (dec_lt n m)
    (λ k. absurd (f.before (n - 1) (omega (arith, g.low)) g.equal))
    (λ k. omega arith))

-- ---- record i of a list's file

module _ {L : Layout} (K : Lawful L) (bs : List (List ℕ)) (listed : Listed L bs) (i : ℕ) (some : 1 ≤ i) (most : i ≤ length bs) where
  abbrev f : List ℕ
  f = file_of bs

  abbrev place : ℕ
  place = place_of f (i - 1)

  abbrev long : ℕ
  long = length_of f (i - 1)

  abbrev first : ℕ
  first = first_same (body bs i) bs

  first_of : First (body bs i) bs first × (first ≤ i - 1 + 1)
  first_of = first_is (body bs i) bs (i - 1) (omega arith) refl

  told : Told bs i place long first
  told =
      let p = parted K f bs listed refl in
      let z : 0 + (i - 1) ≡ i - 1 = omega arith in
      let r = row_of f p.small bs 0 (table_end (length bs)) (i - 1) (flatten bs) p.rows p.rest p.room (omega arith) in
      record {
        place_is = rw z at r.place;
        long_is = rw z at r.long;
        bytes = rw z at r.body;
        counted = (first_of.0.low, omega (arith, first_of.1));
        equal = first_of.0.equal;
        none_before = λ j a b e. first_of.0.before (j - 1) (omega arith) e;
      }

  answers : read_answer L f i ≡ recorded place long first
  answers =
      let p = parted K f bs listed refl in
      sym (read_so L f i (made_accepted K bs listed) (λ e. omega arith) (omega (arith, p.count)) refl refl
      (ap (λ (l : List (List ℕ)). first_same (get_or l (i - 1) []) l) (sym (bodies_file K bs listed))))

  one_record : {a b c p l n : ℕ} → recorded a b c ≡ recorded p l n → (a ≡ p) × ((b ≡ l) × (c ≡ n))
  one_record {a} {b} {c} {p} {l} {n} e =
      let r : ◌≡◌ {A = Record} (record { place = a; length = b; first = c }) (record { place = p; length = l; first = n }) = cc in
      (ap (λ (x : Record). x.place) r, (ap (λ (x : Record). x.length) r, ap (λ (x : Record). x.first) r))

  told_as : (p l n : ℕ) → recorded place long first ≡ recorded p l n → Told bs i p l n
  told_as p l n e =
      let (a, (b, c)) = one_record e in
      subst (λ (x : ℕ). Told bs i p l x) c (subst (λ (x : ℕ). Told bs i p x first) b (subst (λ (x : ℕ). Told bs i x long first) a told))

  -- READING RECORD i of a list's file tells exactly where body i stands, how long it is, and the first record with equal bytes
  pub told_if : (p l n : ℕ) → (read_answer L f i ≡ recorded p l n) ↔ Told bs i p l n
  told_if p l n = (
    λ e. told_as p l n (sym answers ∙ e),
    λ t.
        let a : place ≡ p = told.place_is ∙ sym t.place_is in
        let b : long ≡ l = told.long_is ∙ sym t.long_is in
        let given : First (body bs i) bs n =
        record { low = t.counted.0; equal = t.equal; before = λ j h e. t.none_before (j + 1) (omega arith) h (rw (back j) e) } in
        let c : first ≡ n = first_once (body bs i) bs first n first_of.0 given in
        answers ∙ rw (a, b, c) refl,
  )
    where
      back : (j : ℕ) → j + 1 - 1 ≡ j
      back j = omega arith

  -- the number that `firsts` puts for record i is that first record
  pub firsts_told : (p l n : ℕ) → Told bs i p l n → get_or (firsts_of bs) (i - 1) 0 ≡ n
  firsts_told p l n t =
      let e : recorded place long first ≡ recorded p l n = sym answers ∙ (told_if p l n).1 t in
      let same : first ≡ n = (one_record e).1.1 in
      first_at_lem bs (i - 1) (omega arith) ∙ same
