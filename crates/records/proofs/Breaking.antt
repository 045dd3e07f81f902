-- Reading a day file is refused exactly if a rule of the page's table is broken, with the number and at the place that the table gives it: the
-- file's tests are taken one after the other.
use Rattle.std.specs.Prelude.{Result, Ok, Err}
use Rattle.records.specs.declared.reading.Record.{Record}
use Prim.Native.Nat.{ℕ, ◌-◌, ◌<◌}
use native.Mathlib.Omega.{arith}
use mathlib.Core.Path.{◌≡◌, refl, sym, ap, ◌∙◌, subst}
use mathlib.Core.Logic.{◌↔◌, ◌⊎◌, inl, inr, ⊎_elim}
use mathlib.Core.Bool.{Bool, true, false, cond, ◌||◌, or-true}
use mathlib.Core.List.{List}
use lib.Dec.{leb, ltb, eqb}
use lib.ListN.{length}
use borrow.Author.Tests.{lt-ltb, le-ltb, ltb-true, ltb-false, leb-false, lt-leb, eqb-true, eqb-false, ne_eqb}
use Rattle.refusals.specs.declared.Refusal.{Refusal}
use Rattle.refusals.specs.declared.Rule.{Rule}
use Rattle.refusals.specs.Table.{number_of, broken}
use Rattle.ground.proofs.Bools.{never}
use Rattle.ground.proofs.Tests.{false_of, or_cases}
use Rattle.numbers.specs.Placed.{placed}
use Rattle.dayfile.specs.Day.{most_records, Layout, count_of, count_bytes, bodies_of}
use Rattle.dayfile.proofs.Layouts.{Lawful}
use Rattle.records.specs.Read.{recorded, is_file, refusal_of, of_file, record_of, read_answer, firsts_of, counted, firsts_in}
use Rattle.records.specs.Refusals.{FileBreaks, no_count, count_over, not_given}
use Rattle.records.specs.Refusals.{ReadBreaks, in_file, no_such, FirstsBreak, in_the_file, no_room_for}
use Rattle.records.proofs.Accepted.{file_given, given_file, accepted_given, given_accepted}
use Rattle.records.proofs.Theorems.{uncounted}

record_not_refused : {A : Type 0} (a b c : ℕ) (x : Refusal) → recorded a b c ≡ Err x → A
record_not_refused a b c x e = absurd (let z : ◌≡◌ {A = ℕ} 0 1 = cc in omega arith)

module _ {L : Layout} (K : Lawful L) (f : List ℕ) where
  -- a file that is refused
  file_broken : (x : Refusal) → FileBreaks L f x → of_file (refusal_of L f) ≡ x
  unfolding refusal_of
  file_broken x (no_count h) = rw (lt-ltb _ _ h) refl
  file_broken x (count_over l h) = rw (le-ltb _ _ l, lt-ltb _ _ h) refl
  file_broken x (not_given l c none) = rw (le-ltb _ _ l, le-ltb _ _ c, false_of (is_file L f) (λ e. none (file_given K f c e))) refl

  -- the number of the tests' outcome
  abbrev number : Bool → Bool → Bool → ℕ
  number a b c = cond a (number_of Rule.NotOfLayout) (cond b (number_of Rule.TooMany) (cond c 0 (number_of Rule.NotOfLayout)))

  file_tested : (a b c : Bool) → ltb (length f) count_bytes ≡ a → ltb most_records (count_of f) ≡ b → is_file L f ≡ c
      → (number a b c ≡ 0 → ⊥) → FileBreaks L f (of_file (number a b c))
  file_tested true b c ea eb ec h = no_count (ltb-true _ _ ea)
  file_tested false true c ea eb ec h = count_over (ltb-false _ _ ea) (ltb-true _ _ eb)
  file_tested false false true ea eb ec h = absurd (h refl)
  file_tested false false false ea eb ec h = not_given (ltb-false _ _ ea) (ltb-false _ _ eb) (λ g. never (sym ec ∙ given_file K f g))

  file_refused : (refusal_of L f ≡ 0 → ⊥) → FileBreaks L f (of_file (refusal_of L f))
  unfolding refusal_of
  file_refused = file_tested (ltb (length f) count_bytes) (ltb most_records (count_of f)) (is_file L f) refl refl refl

  -- a broken rule has a number
  broken_number : (x : Refusal) → FileBreaks L f x → refusal_of L f ≡ 0 → ⊥
  broken_number x (no_count h) e = let z = ap (λ (y : Refusal). y.number) (file_broken x (no_count h)) in omega arith
  broken_number x (count_over l h) e = let z = ap (λ (y : Refusal). y.number) (file_broken x (count_over l h)) in omega arith
  broken_number x (not_given l c none) e = let z = ap (λ (y : Refusal). y.number) (file_broken x (not_given l c none)) in omega arith

  module _ (i : ℕ) where
    read_as : (x y : Refusal) → ReadBreaks L f i x → ◌≡◌ {A = Result Record Refusal} (Err x) (Err y) → ReadBreaks L f i y
    read_as x y b e = let z : x ≡ y = cc in subst (ReadBreaks L f i) z b

    read_tested : (x : Refusal) (a b : Bool) → eqb (refusal_of L f) 0 ≡ a → (eqb i 0 || ltb (count_of f) i) ≡ b
        → cond a (cond b (Err (broken Rule.NoRecord 0)) (record_of L f (i - 1))) (Err (of_file (refusal_of L f))) ≡ Err x → ReadBreaks L f i x
    unfolding record_of
    read_tested x true true ea eb e =
        read_as (broken Rule.NoRecord 0) x
        (no_such (accepted_given K f (eqb-true _ _ ea)) (⊎_elim (λ h. inl (eqb-true i 0 h)) (λ h. inr (ltb-true (count_of f) i h)) (or_cases _ _ eb))) e
    read_tested x true false ea eb e = record_not_refused _ _ _ x e
    read_tested x false b ea eb e = read_as (of_file (refusal_of L f)) x (in_file (file_refused (eqb-false _ _ ea))) e

    out_of : (i ≡ 0) ⊎ (count_of f < i) → (eqb i 0 || ltb (count_of f) i) ≡ true
    out_of (inl e) = rw e refl
    out_of (inr h) = rw (lt-ltb (count_of f) i h) (or-true (eqb i 0))

    read_broken : (x : Refusal) → ReadBreaks L f i x → read_answer L f i ≡ Err x
    unfolding read_answer
    read_broken x (in_file b) = rw (ne_eqb (refusal_of L f) 0 (broken_number x b)) (ap Err (file_broken x b))
    read_broken x (no_such g h) = rw (given_accepted K f g, out_of h) refl

    -- READING A RECORD IS REFUSED exactly by the first rule that is broken
    pub read_refused : (x : Refusal) → (read_answer L f i ≡ Err x) ↔ ReadBreaks L f i x
    unfolding read_answer
    read_refused x = (read_tested x (eqb (refusal_of L f) 0) (eqb i 0 || ltb (count_of f) i) refl refl, read_broken x)

  module _ (out : List ℕ) where
    firsts_as : (x y : Refusal) → FirstsBreak L f out x → ◌≡◌ {A = Result ℕ Refusal} (Err x) (Err y) → FirstsBreak L f out y
    firsts_as x y b e = let z : x ≡ y = cc in subst (FirstsBreak L f out) z b

    firsts_tested : (x : Refusal) (a b : Bool) → eqb (refusal_of L f) 0 ≡ a → leb (count_of f) (length out) ≡ b
        → (cond a (cond b (counted (Ok (count_of f)) (placed out 0 (firsts_of (bodies_of L f)))) (counted (Err (broken Rule.Short 0)) out))
        (counted (Err (of_file (refusal_of L f))) out)).answer ≡ Err x → FirstsBreak L f out x
    firsts_tested x true true ea eb e = absurd (uncounted _ x e)
    firsts_tested x true false ea eb e =
        firsts_as (broken Rule.Short 0) x (no_room_for (accepted_given K f (eqb-true _ _ ea)) (leb-false _ _ eb)) e
    firsts_tested x false b ea eb e = firsts_as (of_file (refusal_of L f)) x (in_the_file (file_refused (eqb-false _ _ ea))) e

    firsts_broken : (x : Refusal) → FirstsBreak L f out x → (firsts_in L f out).answer ≡ Err x
    unfolding firsts_in
    firsts_broken x (in_the_file b) = rw (ne_eqb (refusal_of L f) 0 (broken_number x b)) (ap Err (file_broken x b))
    firsts_broken x (no_room_for g h) = rw (given_accepted K f g, lt-leb _ _ h) refl

    -- THE FIRST EQUAL RECORDS are refused exactly by the first rule that is broken
    pub firsts_refused : (x : Refusal) → ((firsts_in L f out).answer ≡ Err x) ↔ FirstsBreak L f out x
    unfolding firsts_in
    firsts_refused x = (firsts_tested x (eqb (refusal_of L f) 0) (leb (count_of f) (length out)) refl refl, firsts_broken x)
